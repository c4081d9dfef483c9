use Rattle.std.proofs.Common.{ℕ, List, [], ◌∷◌, rules, sym, ap, ◌∙◌}
use Rattle.std.proofs.Output.{has_written_append, has_written_of_eq}
use Rattle.std.proofs.lemmas.List.{flat_map_more}
use Rattle.std.specs.Fmt.{decimal}
use Rattle.std.specs.List.{flat_map, range_with_len}
use Rattle.lines.proofs.Ranges.{range_more}
use Rattle.lines.proofs.bounds.RowDisplay.fmt.Goals as goal

pub loop-e-preserved : goal.loop-e-preserved
loop-e-preserved g c = λ p.
    let number : ℕ → List ℕ = λ e. 32 ∷ decimal (g.N.Numbers.at c.args.self.now.numbers e) in
    let e = c.loop-e.e in
    let more = flat_map_more number [] (range_with_len 0 e) e ∙ ap (flat_map number) (sym (range_more e)) in
    has_written_of_eq _ _ _ _ _ more (has_written_append _ _ _ _ (number e) _ (c.loop-e.invariant p) (search rules))
