-- What load answers and leaves, by what its page reads as. Assumes nothing.
use Rattle.std.proofs.Common.{◌≡◌, ℕ, List, Ok, Err}
use Rattle.rules.specs.declared.faults.PageFault.{PageFault}
use Rattle.rules.specs.Models.{Model, Meaning}
use Rattle.rules.specs.Pages.{read_page, load_answer, loaded}

module _ (f : Meaning) (p : List ℕ) where
  pub load_refused : (e : PageFault) → read_page f p ≡ Err e → Err e ≡ load_answer f p
  load_refused e is = rw (load_answer, is)

  pub load_accepted : (M : Model) → read_page f p ≡ Ok M → Ok tt ≡ load_answer f p
  load_accepted M is = rw (load_answer, is)

  pub loaded_refused : (M : Model) (e : PageFault) → read_page f p ≡ Err e → M ≡ loaded (read_page f p) (λ N. N) M
  loaded_refused M e is = rw is

  pub loaded_accepted : (M N : Model) → read_page f p ≡ Ok N → N ≡ loaded (read_page f p) (λ O. O) M
  loaded_accepted M N is = rw is
