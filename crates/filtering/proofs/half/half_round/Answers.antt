use Rattle.std.proofs.Common.{◌≡◌, Err, Some, None, sym, ap, ◌∙◌, rules}
use Rattle.rules.specs.Rules.{overloading, new_early, new_late}
use Rattle.face.specs.Readings.{bound_of}
use Rattle.face.specs.Shown.{early_end, late_end, shown}
use Rattle.face.proofs.Fines.{fine}
use Rattle.filtering.specs.Ends.{half_of, Ruled}
use Rattle.filtering.proofs.Halving.{half_clash, half_overload, half_short, half_on, windows_same, none_out, found_some, found_none, ruled_by, calm_by}
use Rattle.filtering.proofs.half.half_round.Goals as goal

pub returns-in_err-check_pairs : goal.returns-in_err-check_pairs
returns-in_err-check_pairs g c =
    let x = c.in_err-check_pairs.field-0.0 in
    let told : c.from_residual.result ≡ Err x = search rules in
    ap half_of told ∙ half_clash (shown c.args.face.now) (g.W.Numbers.at c.args.b.now) x (found_some x _ c.in_err-check_pairs.ensures)

pub returns-in_err-calm : goal.returns-in_err-calm
returns-in_err-calm g c =
    let F = shown c.args.face.now in
    let b = g.W.Numbers.at c.args.b.now in
    let x = c.in_err-calm.field-0.0 in
    let told : c.from_residual-in_err-calm.result ≡ Err x = search rules in
    let found : Some x ≡ overloading F b = sym c.in_err-calm.ensures ∙ ap (λ X. overloading X (g.W.Numbers.at (bound_of c.of-reading.result))) c.of-reading.ensures.face ∙ ap (λ w. overloading F (g.W.Numbers.at w)) c.of-reading.ensures.bound in
    ap half_of told ∙ half_overload F b (found_none _ c.in_ok-check_pairs.ensures) x found

pub returns-in_err-check_room : goal.returns-in_err-check_room
returns-in_err-check_room g c =
    let F = shown c.args.face.now in
    let b = g.W.Numbers.at c.args.b.now in
    let at = g.W.Numbers.at in
    let x = c.in_err-check_room.field-0.0 in
    let told : c.from_residual-in_err-check_room.result ≡ Err x = search rules in
    let ruled : Ruled F b c.new_windows-windows.result = ruled_by at F c.args.b.now c.of-reading.result c.in_ok-calm.calm.reading.now c.of-reading.ensures.face c.of-reading.ensures.bound c.in_ok-calm.ensures c.new_windows-windows.result c.new_windows-windows.ensures in
    let none : None ≡ overloading F b = calm_by at F c.args.b.now c.of-reading.result c.in_ok-calm.calm.reading.now c.of-reading.ensures.face c.of-reading.ensures.bound c.in_ok-calm.ensures c.in_ok-calm.calm.calm in
    ap half_of told ∙ half_short F b (found_none _ c.in_ok-check_pairs.ensures) x none (found_some x _ (c.in_err-check_room.ensures b ruled))

pub unreachable-requires : goal.unreachable-requires
unreachable-requires g c =
    let F = shown c.args.face.now in
    let b = g.W.Numbers.at c.args.b.now in
    let at = g.W.Numbers.at in
    let ruled : Ruled F b c.new_windows-windows.result = ruled_by at F c.args.b.now c.of-reading.result c.in_ok-calm.calm.reading.now c.of-reading.ensures.face c.of-reading.ensures.bound c.in_ok-calm.ensures c.new_windows-windows.result c.new_windows-windows.ensures in
    none_out F b c.new_windows-windows.result (fine c.args.face.now) (found_none _ (c.in_ok-check_room.ensures b ruled)) ruled c.in_default.ensures

pub returns : goal.returns
returns g c =
    let F = shown c.args.face.now in
    let b = g.W.Numbers.at c.args.b.now in
    let at = g.W.Numbers.at in
    let ruled : Ruled F b c.new_windows-windows.result = ruled_by at F c.args.b.now c.of-reading.result c.in_ok-calm.calm.reading.now c.of-reading.ensures.face c.of-reading.ensures.bound c.in_ok-calm.ensures c.new_windows-windows.result c.new_windows-windows.ensures in
    let none : None ≡ overloading F b = calm_by at F c.args.b.now c.of-reading.result c.in_ok-calm.calm.reading.now c.of-reading.ensures.face c.of-reading.ensures.bound c.in_ok-calm.ensures c.in_ok-calm.calm.calm in
    let windows = windows_same F (early_end c.new_windows-windows.result) (new_early F b) (late_end c.new_windows-windows.result) (new_late F b) (λ i h. (ruled i h).0) (λ i h. (ruled i h).1) (shown c.in-Some.next) c.in-Some.ensures.1 in
    half_on F b (found_none _ c.in_ok-check_pairs.ensures) none (found_none _ (c.in_ok-check_room.ensures b ruled)) (shown c.in-Some.next) windows
