use Rattle.std.proofs.Common.{ℕ, Ok, Err, Result, sym, refl, ap, ◌∙◌}
use Rattle.std.proofs.lemmas.Result.{err_from_is_err_and}
use Rattle.std.proofs.lemmas.Bool.{cond-true, cond-false}
use Rattle.rules.specs.declared.faults.PageFault.{PageFault}
use Rattle.rules.specs.Models.{Model, reopened}
use Rattle.rules.specs.Pages.{page_book, page_sheet, agrees, chain_answer, first_stray}
use Rattle.chain.specs.Listed.{cards}
use Rattle.sheet.specs.Shown.{shown}
use Rattle.archive.specs.Answers.{sheet_of, bytes_in, number_in, stray_answer}
use Rattle.archive.specs.Bytes.{bytes_of}
use Rattle.archive.specs.Chains.{cards_of}
use Rattle.archive.proofs.Posting.{matrix_sheet}
use Rattle.archive.proofs.Wholes.{taken, sized, status_is, fails, goes_on, refused, answered}
use Rattle.archive.proofs.loading.read.Goals as goal

pub returns-in_err-page : goal.returns-in_err-page
returns-in_err-page g c =
    let f = g.B.Bound.becomes c.args.bound in
    let p = c.args.bytes.now in
    let raised = err_from_is_err_and c.from_residual.result c.from_residual.ensures.1 in
    ap sheet_of (raised.1 ∙ ap Err raised.2) ∙ refused f p p refl _ (fails _ _ (sym c.new.ensures ∙ ap bytes_in c.in_err-page.was))

pub returns-in_err-check_version : goal.returns-in_err-check_version
returns-in_err-check_version g c =
    let f = g.B.Bound.becomes c.args.bound in
    let p = c.args.bytes.now in
    let q = bytes_of c.in_ok-page.page in
    let is = taken p q c.in_ok-page.ensures in
    let size = sized q c.in_ok-page.page.size in
    let raised = err_from_is_err_and c.from_residual-in_err-check_version.result c.from_residual-in_err-check_version.ensures.1 in
    ap sheet_of (raised.1 ∙ ap Err raised.2) ∙ refused f p q is _ (goes_on _ _ size (fails _ _ (sym c.check_version.ensures ∙ c.in_err-check_version.was)))

pub returns-in_err-sheet : goal.returns-in_err-sheet
returns-in_err-sheet g c =
    let f = g.B.Bound.becomes c.args.bound in
    let p = c.args.bytes.now in
    let q = bytes_of c.in_ok-page.page in
    let is = taken p q c.in_ok-page.ensures in
    let size = sized q c.in_ok-page.page.size in
    let raised = err_from_is_err_and c.from_residual-in_err-sheet.result c.from_residual-in_err-sheet.ensures.1 in
    ap sheet_of (raised.1 ∙ ap Err raised.2) ∙ refused f p q is _ (goes_on _ _ size (goes_on _ _ (sym c.check_version.ensures ∙ c.in_ok-check_version.was) (fails _ _ (sym c.read_matrix.ensures ∙ ap sheet_of c.in_err-sheet.was))))

pub returns-in_err-status : goal.returns-in_err-status
returns-in_err-status g c =
    let f = g.B.Bound.becomes c.args.bound in
    let p = c.args.bytes.now in
    let q = bytes_of c.in_ok-page.page in
    let is = taken p q c.in_ok-page.ensures in
    let size = sized q c.in_ok-page.page.size in
    let raised = err_from_is_err_and c.from_residual-in_err-status.result c.from_residual-in_err-status.ensures.1 in
    ap sheet_of (raised.1 ∙ ap Err raised.2) ∙ refused f p q is _ (goes_on _ _ size (goes_on _ _ (sym c.check_version.ensures ∙ c.in_ok-check_version.was) (goes_on _ _ (sym c.in_ok-sheet.ensures) (fails _ _ (sym c.status.ensures ∙ ap number_in c.in_err-status.was)))))

pub returns-in_err-chain : goal.returns-in_err-chain
returns-in_err-chain g c =
    let f = g.B.Bound.becomes c.args.bound in
    let p = c.args.bytes.now in
    let q = bytes_of c.in_ok-page.page in
    let is = taken p q c.in_ok-page.ensures in
    let size = sized q c.in_ok-page.page.size in
    let m_is = c.setups-setups.ensures in
    let raised = err_from_is_err_and c.from_residual-in_err-chain.result c.from_residual-in_err-chain.ensures.1 in
    ap sheet_of (raised.1 ∙ ap Err raised.2) ∙ refused f p q is _ (goes_on _ _ size (goes_on _ _ (sym c.check_version.ensures ∙ c.in_ok-check_version.was) (goes_on _ _ (sym c.in_ok-sheet.ensures) (goes_on _ _ (sym c.in_ok-status.ensures) (fails _ _ (ap (chain_answer q) (sym m_is) ∙ sym c.read_chain.ensures ∙ ap cards_of c.in_err-chain.was))))))

pub returns-in_err-check_strays : goal.returns-in_err-check_strays
returns-in_err-check_strays g c =
    let f = g.B.Bound.becomes c.args.bound in
    let p = c.args.bytes.now in
    let q = bytes_of c.in_ok-page.page in
    let is = taken p q c.in_ok-page.ensures in
    let size = sized q c.in_ok-page.page.size in
    let m_is = c.setups-setups.ensures in
    let raised = err_from_is_err_and c.from_residual-in_err-check_strays.result c.from_residual-in_err-check_strays.ensures.1 in
    ap sheet_of (raised.1 ∙ ap Err raised.2) ∙ refused f p q is _ (goes_on _ _ size (goes_on _ _ (sym c.check_version.ensures ∙ c.in_ok-check_version.was) (goes_on _ _ (sym c.in_ok-sheet.ensures) (goes_on _ _ (sym c.in_ok-status.ensures) (goes_on _ _ (ap (chain_answer q) (sym m_is) ∙ sym c.in_ok-chain.ensures) (fails _ _ (ap (λ m. stray_answer (first_stray q m (cards c.in_ok-chain.chain))) (sym m_is) ∙ sym c.check_strays.ensures ∙ c.in_err-check_strays.was)))))))

pub post_all-requires : goal.post_all-requires
post_all-requires g c = matrix_sheet (bytes_of c.in_ok-page.page) (shown c.in_ok-sheet.sheet) c.setups-setups.result c.setups-setups.ensures c.in_ok-sheet.ensures

pub returns-then-not-agrees : goal.returns-then-not-agrees
returns-then-not-agrees g c =
    let f = g.B.Bound.becomes c.args.bound in
    let p = c.args.bytes.now in
    let q = bytes_of c.in_ok-page.page in
    let is = taken p q c.in_ok-page.ensures in
    let size = sized q c.in_ok-page.page.size in
    let m_is = c.setups-setups.ensures in
    let whole = λ (m : ℕ). reopened (page_book q m (cards c.in_ok-chain.chain)) in
    let posted = ap whole (sym m_is) ∙ sym c.post_all.ensures in
    let book = goes_on _ _ size (goes_on _ _ (sym c.check_version.ensures ∙ c.in_ok-check_version.was) (goes_on _ _ (sym c.in_ok-sheet.ensures) (goes_on _ _ (sym c.in_ok-status.ensures) (goes_on _ _ (ap (chain_answer q) (sym m_is) ∙ sym c.in_ok-chain.ensures) (goes_on _ _ (ap (λ m. stray_answer (first_stray q m (cards c.in_ok-chain.chain))) (sym m_is) ∙ sym c.check_strays.ensures ∙ c.in_ok-check_strays.was) (ap (λ (M : Model). let r : Result Model PageFault = Ok M in r) posted)))))) in
    let settled = c.settle_as.ensures ∙ ap (λ k. page_sheet f k (shown c.post_all.new.sheet).book) (status_is q _ c.in_ok-status.ensures) in
    answered f p q is (shown c.post_all.new.sheet) _ book (cond-false _ _ _ (ap (agrees q) (sym settled) ∙ sym c.agrees.ensures ∙ c.if-not-agrees.true))

pub returns : goal.returns
returns g c =
    let f = g.B.Bound.becomes c.args.bound in
    let p = c.args.bytes.now in
    let q = bytes_of c.in_ok-page.page in
    let is = taken p q c.in_ok-page.ensures in
    let size = sized q c.in_ok-page.page.size in
    let m_is = c.setups-setups.ensures in
    let whole = λ (m : ℕ). reopened (page_book q m (cards c.in_ok-chain.chain)) in
    let posted = ap whole (sym m_is) ∙ sym c.post_all.ensures in
    let book = goes_on _ _ size (goes_on _ _ (sym c.check_version.ensures ∙ c.in_ok-check_version.was) (goes_on _ _ (sym c.in_ok-sheet.ensures) (goes_on _ _ (sym c.in_ok-status.ensures) (goes_on _ _ (ap (chain_answer q) (sym m_is) ∙ sym c.in_ok-chain.ensures) (goes_on _ _ (ap (λ m. stray_answer (first_stray q m (cards c.in_ok-chain.chain))) (sym m_is) ∙ sym c.check_strays.ensures ∙ c.in_ok-check_strays.was) (ap (λ (M : Model). let r : Result Model PageFault = Ok M in r) posted)))))) in
    let settled = c.settle_as.ensures ∙ ap (λ k. page_sheet f k (shown c.post_all.new.sheet).book) (status_is q _ c.in_ok-status.ensures) in
    answered f p q is (shown c.post_all.new.sheet) _ book (cond-true _ _ _ (ap (agrees q) (sym settled) ∙ sym c.agrees.ensures ∙ c.if-not-agrees.false) ∙ ap (λ (M : Model). let r : Result Model PageFault = Ok M in r) (sym settled))
