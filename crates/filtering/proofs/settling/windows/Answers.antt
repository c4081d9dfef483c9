use Rattle.std.proofs.Common.{◌≡◌, ℕ, zero, suc, ◌+◌, ◌-◌, ◌<◌, ◌≤◌, length, get_or, replicate, drop, refl, ◌∙◌, ⊎_elim, arith, get_or-drop}
use Rattle.std.proofs.lemmas.Bool.{cases_lt}
use Rattle.std.proofs.lemmas.List.{get_or_append_left, get_or-append_right}
use Rattle.rules.specs.Books.{no_window}
use Rattle.face.specs.Shown.{shown}
use Rattle.face.proofs.Fines.{n_is, early_out, late_out}
use Rattle.filtering.proofs.settling.windows.Goals as goal

none_at : (n k : ℕ) → get_or (replicate n no_window) k no_window ≡ no_window
none_at zero k = refl
none_at (suc n) zero = refl
none_at (suc n) (suc k) = none_at n k

pub returns : goal.returns
returns c =
    let F = c.args.face.now in
    let items = c.loop-j.window-items in
    let n = c.jobs.result in
    let many = n_is F in
    λ k.
    ⊎_elim
    (λ h. let inside : k < length items = omega (arith, h, c.loop-j.invariant.0) in get_or_append_left items _ no_window k inside ∙ c.loop-j.invariant.1 k (omega (arith, h, c.loop-j.invariant.0)))
    (λ h.
    let past : n ≤ k = omega (arith, h, c.jobs.ensures.value) in
    let w = get_or-append_right items (drop n (replicate 32 no_window)) n k no_window (omega (arith, c.loop-j.invariant.0, c.jobs.ensures.value)) past ∙ get_or-drop n (replicate 32 no_window) (k - n) no_window ∙ none_at 32 (n + (k - n)) in
    let e = early_out F k (omega (arith, h, many)) in
    let l = late_out F k (omega (arith, h, many)) in
    cc)
    (cases_lt k (shown F).n)
