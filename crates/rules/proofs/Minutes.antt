-- Windows that only shrink have no more minutes, and fewer if one of them changes. Assumes nothing.
use Rattle.std.proofs.Common.{◌≡◌, ℕ, zero, suc, ◌<◌, ◌≤◌, false, arith}
use Rattle.rules.specs.Faces.{Face}
use Rattle.rules.specs.Settling.{same_windows, minutes}

module _ (F G : Face) (opens : (j : ℕ) → j < F.n → F.early j ≤ G.early j) (closes : (j : ℕ) → j < F.n → G.late j ≤ F.late j) where
  -- no more minutes
  pub minutes_shrink : (k : ℕ) → k ≤ F.n → minutes G k ≤ minutes F k
  unfolding minutes
  minutes_shrink zero h = omega arith
  minutes_shrink (suc k) h = omega (arith, minutes_shrink k (omega arith), opens k (omega arith), closes k (omega arith))

  -- fewer if one of the windows, which are not empty, changes
  pub minutes_fall : ((j : ℕ) → j < F.n → F.early j < F.late j) → (k : ℕ) → k ≤ F.n → same_windows F G k ≡ false → minutes G k < minutes F k
  unfolding minutes same_windows
  minutes_fall wide zero h e = grind arith
  minutes_fall wide (suc k) h e =
      let here : k < F.n = omega arith in
      let shrunk : minutes G k ≤ minutes F k = minutes_shrink k (omega arith) in
      let fell : same_windows F G k ≡ false → minutes G k < minutes F k = minutes_fall wide k (omega arith) in
      let opened = opens k here in
      let closed = closes k here in
      let room = wide k here in
      grind arith
