-- The numbers of each kind of bound, over n jobs and the gaps between them, as they are computed. Assumes nothing.
-- `least` has a greatest value in the place of "no candidate": Rules.antt has the rules without it.
use Rattle.std.specs.Prelude.{ℕ, zero, suc, ◌+◌, ◌*◌, min, max, cond, ◌==◌, nat_lt}

-- x for e below n, and 0 from n on
abbrev pub below : ℕ → ℕ → ℕ → ℕ
below n e x = cond (nat_lt e n) x 0

-- no bound: only zeros
abbrev pub zeros : ℕ → ℕ
zeros e = 0

-- the least of top and of f 0, f 1, .. f (n - 1)
abbrev pub least : ℕ → ℕ → (ℕ → ℕ) → ℕ
least top zero f = top
least top (suc k) f = min (least top k f) (f k)

-- f, with top in the place of its value at j
abbrev pub but : ℕ → ℕ → (ℕ → ℕ) → ℕ → ℕ
but top j f i = cond (i == j) top (f i)

-- the least gap between two different jobs
abbrev pub least_gap : ℕ → (ℕ → ℕ → ℕ) → ℕ
least_gap n gap = least 12000 n (λ i. least 12000 n (but 12000 i (gap i)))

-- least gap: e times a step, for e below n
abbrev pub multiples : ℕ → ℕ → ℕ → ℕ
multiples n step e = below n e (e * step)

-- w(e, j): the least that e gaps one after another add up to, the last of them into j
abbrev pub walk : ℕ → (ℕ → ℕ → ℕ) → ℕ → ℕ → ℕ
walk n gap zero j = 0
walk n gap (suc e) j = least 400000 n (but 400000 j (λ i. walk n gap e i + gap i j))

-- shortest walk: the least w(e, j), for e below n
abbrev pub shortest_walk : ℕ → (ℕ → ℕ → ℕ) → ℕ → ℕ
shortest_walk n gap e = below n e (least 400000 n (walk n gap e))

-- the larger of two bounds, place by place
abbrev pub larger : (ℕ → ℕ) → (ℕ → ℕ) → ℕ → ℕ
larger a b e = max (a e) (b e)
