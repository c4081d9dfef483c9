-- E(S) is a bound: in every possible plan some job of S finishes then or later. Assumes nothing.
use Rattle.std.proofs.Common.{◌≡◌, ℕ, zero, suc, ◌+◌, ◌^◌, ◌<◌, ◌≤◌, max, Bool, true, false, cond, ◌≢◌, ◌⊎◌, List, [], ◌∷◌, ◌++◌, length, Some, None, Option, refl, ap, ◌∙◌, ⊎_elim, arith, length-append}
use Rattle.std.specs.List.{AllByRecursion as All}
use Rattle.std.proofs.ByRecursion.{All-weaker, All-append}
use Rattle.std.proofs.lemmas.Bool.{cond_both, cond-true, cases_lt}
use Rattle.changeover.specs.Rows.{Lawful}
use Rattle.theta_nodes.specs.declared.white.White.{White}
use Rattle.theta_nodes.specs.White.{later, after, capped, white_join}
use Rattle.theta_nodes.specs.Leaves.{nothing_here, white_here, in_white, white_root}
use Rattle.theta.proofs.Grows.{grow, root_is}
use Rattle.rules.specs.Faces.{Face, earliest_finish}
use Rattle.rules.specs.Places.{place, leaf_of, leaves, E}
use Rattle.rules.specs.Plans.{Precedes}
use Rattle.rules.specs.Theorems.{Fine, Possible}
use Rattle.rules.proofs.Seats.{place_below, place_early, at_place, place_found, place_finds}
use Rattle.rules.proofs.Lines.{Distinct, Rising, total, sort, all_sort, total_sort, length_sort, distinct_sort, rising_sort, row_ends, gaps_blocks}

-- the total of two lists
total_append : (f : ℕ → ℕ) (xs ys : List ℕ) → total f (xs ++ ys) ≡ total f xs + total f ys
total_append f [] ys = omega arith
total_append f (x ∷ xs) ys = omega (arith, total_append f xs ys)

-- numbers below and from q, by f, are different
distinct_append : (f : ℕ → ℕ) (q : ℕ) (xs ys : List ℕ) → All (λ x. f x < q) xs → All (λ y. q ≤ f y) ys → Distinct xs → Distinct ys → Distinct (xs ++ ys)
distinct_append f q [] ys h k d e = e
distinct_append f q (x ∷ xs) ys h k d e = (
  All-append (λ y. x ≢ y) xs ys d.0 (All-weaker (λ y. q ≤ f y) (λ y. x ≢ y) (λ y m i. omega (arith, ap f i, h.0)) ys k),
  distinct_append f q xs ys h.1 k d.1 e,
)

-- the later of two times is one of them
later_one : (x y : Option ℕ) (t : ℕ) → later x y ≡ Some t → (x ≡ Some t) ⊎ (y ≡ Some t)
later_one x y t e = grind arith

-- it is there where one of them is
later_left : (x y : Option ℕ) (t : ℕ) → x ≡ Some t → (u : ℕ) × (later x y ≡ Some u)
later_left None y t e = (0, absurd (grind arith))
later_left (Some a) None t e = (a, refl)
later_left (Some a) (Some c) t e = (max a c, refl)

later_right : (x y : Option ℕ) (t : ℕ) → y ≡ Some t → (u : ℕ) × (later x y ≡ Some u)
later_right None y t e = (t, e)
later_right (Some a) None t e = (a, refl)
later_right (Some a) (Some c) t e = (max a c, refl)

-- what so many minutes later comes from; at most, since sums are capped
after_from : (x : Option ℕ) (d t : ℕ) → after x d ≡ Some t → (u : ℕ) × (x ≡ Some u) × (t ≤ u + d)
after_from None d t e = absurd (grind arith)
after_from (Some u) d t e = let q : capped (u + d) ≡ t = cc in (u, refl, omega arith)

-- the job of S at one place
of_list : (ℕ → Bool) → Option ℕ → List ℕ
of_list S None = []
of_list S (Some j) = cond (S j) (j ∷ []) []

-- those of all its places, by place
listed : Face → (ℕ → Bool) → ℕ → ℕ → List ℕ
listed F S zero p = of_list S (at_place F p)
listed F S (suc k) p = listed F S k p ++ listed F S k (p + 2 ^ k)

-- a job of S at a place from lo and below hi
record Here (F : Face) (S : ℕ → Bool) (lo hi j : ℕ) : Type 0 where
  pub job : j < F.n
  pub inside : S j ≡ true
  pub low : lo ≤ place F j
  pub high : place F j < hi

-- where the time t of a node comes from: jobs of S that open at or after a first, and the counts whose numbers were added
record Witness (F : Face) (b : ℕ → ℕ) (S : ℕ → Bool) (lo hi t : ℕ) : Type 0 where
  pub first : ℕ
  pub job : first < F.n
  pub high : place F first < hi
  pub jobs : List ℕ
  pub cuts : List ℕ
  pub here : All (Here F S lo hi) jobs
  pub opens : All (λ j. F.early first ≤ F.early j) jobs
  pub apart : Distinct jobs
  pub long : length jobs ≡ suc (total (λ m. m) cuts)
  pub value : t ≤ F.early first + total F.duration jobs + total b cuts

module _ (F : Face) (b : ℕ → ℕ) (S : ℕ → Bool) where
  -- the node of depth k over the places from p
  abbrev node : ℕ → ℕ → White
  node k p = grow (white_join b) (λ q. in_white (leaves F S q)) k p

  -- places of a part are places of the whole
  here_weaker : (lo hi lo' hi' : ℕ) → lo' ≤ lo → hi ≤ hi' → (xs : List ℕ) → All (Here F S lo hi) xs → All (Here F S lo' hi') xs
  here_weaker lo hi lo' hi' l h xs a =
      All-weaker (Here F S lo hi) (Here F S lo' hi') (λ j w. record { job = w.job; inside = w.inside; low = omega arith; high = omega arith }) xs a

  -- what a leaf lists, and its numbers
  leaf_here : (p : ℕ) (o : Option ℕ) → at_place F p ≡ o → All (Here F S p (p + 1)) (of_list S o)
  unfolding of_list
  leaf_here p None e = tt
  leaf_here p (Some j) e =
      cond_both (S j) (j ∷ []) [] (All (Here F S p (p + 1)))
      (λ t. let w = place_found F p j e in (record { job = w.0; inside = t; low = omega arith; high = omega arith }, tt))
      (λ _. tt)

  leaf_apart : (o : Option ℕ) → Distinct (of_list S o)
  unfolding of_list
  leaf_apart None = tt
  leaf_apart (Some j) = cond_both (S j) (j ∷ []) [] Distinct (λ _. (tt, tt)) (λ _. tt)

  leaf_total : (o : Option ℕ) → (in_white (leaf_of F S o)).total ≡ total F.duration (of_list S o)
  unfolding of_list
  leaf_total None = refl
  leaf_total (Some j) =
      elim (S j) as (λ v. (in_white (cond v (white_here (F.duration j) (earliest_finish F j)) nothing_here)).total ≡ total F.duration (cond v (j ∷ []) []))
      [ true ↦ omega arith | false ↦ refl ]

  leaf_count : (o : Option ℕ) → (in_white (leaf_of F S o)).count ≡ length (of_list S o)
  unfolding of_list
  leaf_count None = refl
  leaf_count (Some j) =
      elim (S j) as (λ v. (in_white (cond v (white_here (F.duration j) (earliest_finish F j)) nothing_here)).count ≡ length (cond {A = List ℕ} v (j ∷ []) []))
      [ true ↦ refl | false ↦ refl ]

  leaf_few : (o : Option ℕ) → length (of_list S o) ≤ 1
  unfolding of_list
  leaf_few None = omega arith
  leaf_few (Some j) = cond_both (S j) (j ∷ []) [] (λ xs. length xs ≤ 1) (λ _. omega arith) (λ _. omega arith)

  -- what a node lists: jobs of S at its places
  listed_here : (k p : ℕ) → All (Here F S p (p + 2 ^ k)) (listed F S k p)
  unfolding listed
  listed_here zero p = leaf_here p (at_place F p) refl
  listed_here (suc k) p =
      All-append (Here F S p (p + 2 ^ suc k)) (listed F S k p) (listed F S k (p + 2 ^ k))
      (here_weaker p (p + 2 ^ k) p (p + 2 ^ suc k) (omega arith) (omega arith) (listed F S k p) (listed_here k p))
      (here_weaker (p + 2 ^ k) (p + 2 ^ k + 2 ^ k) p (p + 2 ^ suc k) (omega arith) (omega arith) (listed F S k (p + 2 ^ k)) (listed_here k (p + 2 ^ k)))

  -- one part of that at a time
  here_high : (lo hi : ℕ) (xs : List ℕ) → All (Here F S lo hi) xs → All (λ j. place F j < hi) xs
  here_high lo hi xs h = All-weaker (Here F S lo hi) (λ j. place F j < hi) (λ j w. w.high) xs h

  here_low : (lo hi : ℕ) (xs : List ℕ) → All (Here F S lo hi) xs → All (λ j. lo ≤ place F j) xs
  here_low lo hi xs h = All-weaker (Here F S lo hi) (λ j. lo ≤ place F j) (λ j w. w.low) xs h

  here_jobs : (lo hi : ℕ) (xs : List ℕ) → All (Here F S lo hi) xs → All (λ j. j < F.n) xs
  here_jobs lo hi xs h = All-weaker (Here F S lo hi) (λ j. j < F.n) (λ j w. w.job) xs h

  -- all different, since each place is of one job
  listed_apart : (k p : ℕ) → Distinct (listed F S k p)
  unfolding listed
  listed_apart zero p = leaf_apart (at_place F p)
  listed_apart (suc k) p =
      let q : ℕ = p + 2 ^ k in
      distinct_append (place F) q (listed F S k p) (listed F S k q) (here_high p q (listed F S k p) (listed_here k p))
      (here_low q (q + 2 ^ k) (listed F S k q) (listed_here k q)) (listed_apart k p) (listed_apart k q)

  -- at most one to a place
  listed_few : (k p : ℕ) → length (listed F S k p) ≤ 2 ^ k
  unfolding listed
  listed_few zero p = leaf_few (at_place F p)
  listed_few (suc k) p = omega (arith, length-append (listed F S k p) (listed F S k (p + 2 ^ k)), listed_few k p, listed_few k (p + 2 ^ k))

  -- a node's total is at most all durations, since sums are capped
  listed_total : (k p : ℕ) → (node k p).total ≤ total F.duration (listed F S k p)
  unfolding grow white_join leaves listed
  listed_total zero p = omega (arith, leaf_total (at_place F p))
  listed_total (suc k) p = omega (arith, total_append F.duration (listed F S k p) (listed F S k (p + 2 ^ k)), listed_total k p, listed_total k (p + 2 ^ k))

  -- a node's count is exact, since it does not reach the cap
  listed_count : (k p : ℕ) → 2 ^ k ≤ 32 → (node k p).count ≡ length (listed F S k p)
  unfolding grow white_join leaves listed
  listed_count zero p h = leaf_count (at_place F p)
  listed_count (suc k) p h =
      omega (
        arith,
        length-append (listed F S k p) (listed F S k (p + 2 ^ k)),
        listed_few k p,
        listed_few k (p + 2 ^ k),
        listed_count k p (omega arith),
        listed_count k (p + 2 ^ k) (omega arith),
      )

  -- the time of a leaf
  leaf_witness : (p t : ℕ) (o : Option ℕ) → at_place F p ≡ o → (in_white (leaf_of F S o)).finish ≡ Some t → Witness F b S p (p + 1) t
  leaf_witness p t None f e = absurd (grind arith)
  leaf_witness p t (Some j) f e =
      cond_both (S j) (white_here (F.duration j) (earliest_finish F j)) nothing_here (λ x. (in_white x).finish ≡ Some t → Witness F b S p (p + 1) t)
      (λ y h.
      let w = place_found F p j f in
      let v : F.early j + F.duration j ≡ t = cc in
      record {
        first = j;
        job = w.0;
        high = omega arith;
        jobs = j ∷ [];
        cuts = [];
        here = (record { job = w.0; inside = y; low = omega arith; high = omega arith }, tt);
        opens = (omega arith, tt);
        apart = (tt, tt);
        long = refl;
        value = omega arith;
      })
      (λ _ h. absurd (grind arith))
      e

  -- the right child's time
  from_right : (lo hi lo' hi' t : ℕ) → lo' ≤ lo → hi ≤ hi' → Witness F b S lo hi t → Witness F b S lo' hi' t
  from_right lo hi lo' hi' t l h w =
      record {
        first = w.first;
        job = w.job;
        high = omega arith;
        jobs = w.jobs;
        cuts = w.cuts;
        here = here_weaker lo hi lo' hi' l h w.jobs w.here;
        opens = w.opens;
        apart = w.apart;
        long = w.long;
        value = w.value;
      }

  -- the left child's time, then all of the right
  from_left : (k p t u : ℕ) → 2 ^ k ≤ 32 → Witness F b S p (p + 2 ^ k) u → t ≤ u + ((node k (p + 2 ^ k)).total + b (node k (p + 2 ^ k)).count) →
      Witness F b S p (p + 2 ^ suc k) t
  from_left k p t u few w e =
      let q : ℕ = p + 2 ^ k in
      let right : List ℕ = listed F S k q in
      let many : (node k q).count ≡ length right = listed_count k q few in
      record {
        first = w.first;
        job = w.job;
        high = omega (arith, w.high);
        jobs = w.jobs ++ right;
        cuts = length right ∷ w.cuts;
        here = All-append (Here F S p (p + 2 ^ suc k)) w.jobs right
            (here_weaker p q p (p + 2 ^ suc k) (omega arith) (omega arith) w.jobs w.here)
            (here_weaker q (q + 2 ^ k) p (p + 2 ^ suc k) (omega arith) (omega arith) right (listed_here k q));
        opens = All-append (λ j. F.early w.first ≤ F.early j) w.jobs right w.opens
            (All-weaker (Here F S q (q + 2 ^ k)) (λ j. F.early w.first ≤ F.early j)
            (λ j h. place_early F w.first j w.job h.job (omega (arith, w.high, h.low))) right (listed_here k q));
        apart = distinct_append (place F) q w.jobs right (here_high p q w.jobs w.here) (here_low q (q + 2 ^ k) right (listed_here k q)) w.apart (listed_apart k q);
        long = omega (arith, length-append w.jobs right, w.long);
        value = omega (arith, total_append F.duration w.jobs right, w.value, listed_total k q, ap b many, e);
      }

  -- the time of any node
  witness : (k p t : ℕ) → 2 ^ k ≤ 32 → (node k p).finish ≡ Some t → Witness F b S p (p + 2 ^ k) t
  unfolding grow white_join leaves
  witness zero p t few e = leaf_witness p t (at_place F p) refl e
  witness (suc k) p t few e =
      let q : ℕ = p + 2 ^ k in
      let l : White = node k p in
      let r : White = node k q in
      let half : 2 ^ k ≤ 32 = omega arith in
      ⊎_elim
      (λ x. from_right q (q + 2 ^ k) p (p + 2 ^ suc k) t (omega arith) (omega arith) (witness k q t half x))
      (λ y. let v = after_from l.finish (r.total + b r.count) t y in from_left k p t v.0 half (witness k p v.0 half v.1) v.2)
      (later_one r.finish (after l.finish (r.total + b r.count)) t e)

  -- a node over the place of a job of S has a time
  has_time : (a : ℕ) → a < F.n → S a ≡ true → (k p : ℕ) → p ≤ place F a → place F a < p + 2 ^ k → (t : ℕ) × ((node k p).finish ≡ Some t)
  unfolding grow white_join leaves
  has_time a ha sa zero p l h =
      let f : at_place F p ≡ Some a = place_finds F p a ha (omega arith) in (
        earliest_finish F a,
        ap (λ o. (in_white (leaf_of F S o)).finish) f ∙ ap (λ x. (in_white x).finish) (cond-true (S a) (white_here (F.duration a) (earliest_finish F a)) nothing_here sa),
      )
  has_time a ha sa (suc k) p l h =
      let q : ℕ = p + 2 ^ k in
      let x : White = node k p in
      let y : White = node k q in
      let d : ℕ = y.total + b y.count in
      ⊎_elim
      (λ c. let v = has_time a ha sa k p l c in later_right y.finish (after x.finish d) (capped (v.0 + d)) (ap (λ z. after z d) v.1))
      (λ c. let v = has_time a ha sa k q c (omega arith) in later_left y.finish (after x.finish d) v.0 v.1)
      (cases_lt (place F a) q)

  -- E reads the node over all 32 places
  time_is : E F b S ≡ (node 5 0).finish
  unfolding E white_root
  time_is = ap (λ w. w.finish) (root_is _ (white_join b) (λ q. in_white (leaves F S q)))

  module _ (fine : Fine F) (law : Lawful F.n F.gap b) (s : ℕ → ℕ) (possible : Possible F s) where
    -- of two jobs the one that starts first precedes the other
    first_precedes : (x y : ℕ) → x < F.n → y < F.n → s x < s y → Precedes F s x y
    first_precedes x y hx hy l = ⊎_elim (λ p. p) (λ p. absurd (omega arith)) (possible.1 x y hx hy (λ e. omega (arith, ap s e)))

    -- different jobs start at different times, since each lasts a minute or more
    starts_differ : (x y : ℕ) → x < F.n → y < F.n → x ≢ y → s x ≢ s y
    starts_differ x y hx hy d e =
        ⊎_elim (λ p. omega (arith, (fine.lasts x hx).0)) (λ p. omega (arith, (fine.lasts y hy).0)) (possible.1 x y hx hy d)

    -- a row that is the witness's jobs by start
    finishes : (lo hi t : ℕ) (w : Witness F b S lo hi t) (row : List ℕ) → length row ≡ length w.jobs → total F.duration row ≡ total F.duration w.jobs →
        All (Here F S lo hi) row → All (λ j. F.early w.first ≤ F.early j) row → Distinct row → Rising s row →
        (j : ℕ) × (j < F.n) × (S j ≡ true) × (t ≤ s j + F.duration j)
    finishes lo hi t w [] n d here opens apart r = absurd (omega (arith, w.long))
    finishes lo hi t w (x ∷ xs) n d here opens apart r =
        let v = row_ends F s (Here F S lo hi) (λ y z hy hz. first_precedes y z hy.job hz.job) x xs here r in
        let cuts = gaps_blocks F.n F.gap b law w.cuts (x ∷ xs) (n ∙ w.long) (here_jobs lo hi (x ∷ xs) here) apart in
        (v.0, v.1.job, v.1.inside, omega (arith, v.2, w.value, possible.0.opens x here.0.job, opens.0))

    -- so one of them finishes then or later
    some_finishes : (lo hi t : ℕ) → Witness F b S lo hi t → (j : ℕ) × (j < F.n) × (S j ≡ true) × (t ≤ s j + F.duration j)
    some_finishes lo hi t w =
        finishes lo hi t w (sort s w.jobs) (length_sort s w.jobs) (total_sort s F.duration w.jobs)
        (all_sort s (Here F S lo hi) w.jobs w.here)
        (all_sort s (λ j. F.early w.first ≤ F.early j) w.jobs w.opens)
        (distinct_sort s w.jobs w.apart)
        (rising_sort s (λ j. j < F.n) starts_differ w.jobs (here_jobs lo hi w.jobs w.here) w.apart)

-- where S has a job, E(S) is a time, and in every possible plan some job of S finishes then or later
pub set_finishes : (F : Face) (b : ℕ → ℕ) → Fine F → Lawful F.n F.gap b → (S : ℕ → Bool) (a : ℕ) → a < F.n → S a ≡ true →
    (t : ℕ) × (E F b S ≡ Some t) × ((start : ℕ → ℕ) → Possible F start → (j : ℕ) × (j < F.n) × (S j ≡ true) × (t ≤ start j + F.duration j))
set_finishes F b fine law S a ha sa =
    let v = has_time F b S a ha sa 5 0 (omega arith) (omega (arith, place_below F a ha, fine.few)) in
    let w = witness F b S 5 0 v.0 (omega arith) v.1 in
    (v.0, time_is F b S ∙ v.1, λ s possible. some_finishes F b S fine law s possible 0 32 v.0 w)
