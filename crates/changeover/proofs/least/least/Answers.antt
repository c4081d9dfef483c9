use Rattle.std.proofs.Common.{min, sym, refl, ◌∙◌, subst, rules}
use borrow.Author.Tests.{tests}
use Rattle.std.proofs.lemmas.Iterator.{serves_from_Range}
use Rattle.changeover.proofs.Chains.{folded_all}
use Rattle.changeover.proofs.Leasts.{fold_least}
use Rattle.changeover.proofs.least.least.Goals as goal

pub fold-requires-clause-can : goal.fold-requires-clause-can
fold-requires-clause-can g c = (tt, serves_from_Range (λ x q k. g.met.F.Fn.1.step_stays c.map.result.f (x, tt) k.0 q k.1) (λ x _ lt. subst (λ v. g.F.Fn.pre v (x, tt)) (sym c.map.ensures.closure) (c.requires x (search rules))))

pub returns : goal.returns
returns g c f same =
    folded_all _ _ c.fold.result c.args.top min f c.args.jobs c.fold.ensures.runs c.map.ensures.runs refl (λ x y r q k. search (rules, tests)) (λ x r q k. (g.met.F.Fn.1.step_stays c.args.value (x, tt) r q k, same x r ((g.met.F.FnMut.1.post_iff c.args.value (x, tt) r).1 (q, k))))
    ∙ fold_least c.args.top c.args.jobs f
