use Rattle.std.proofs.Common.{◌≡◌, ◌∙◌, sym, ap, map, List, ℕ, Some, slice_get}
use Rattle.std.proofs.lemmas.Option.{slice_get-get_or}
use Rattle.pz_classes.specs.CheckedView.{checked_model}
use Rattle.pz_bind.specs.devices.Bindings.{value_in}
use Rattle.pz_bind.proofs.SiteSteps.{known_at, node_is}
use Rattle.pz_bind.proofs.nodes.node_of.Goals as goal

pub returns : goal.returns
returns c = λ place stands class_is.
    let m = checked_model c.args.checked.now in
    let s = c.args.process.standing in
    let site = c.index-sites-process.result in
    let x = c.instance-instance.result.now in
    let at : slice_get c.args.sites.now s.level ≡ Some site = slice_get-get_or c.args.sites.now s.level site c.requires.within ∙ ap Some (sym c.index-sites-process.is) in
    node_is m c.args.sites.now s place site x c.args.process.class _ c.in_ok-bindings.bindings _
    (known_at m c.args.sites.now s place site x at c.instance-instance.ensures stands) class_is c.in_ok-path.ensures (λ q. c.in_ok-bindings.ensures q)
    (c.in_ok-values.ensures ∙ ap (λ (names : List (List ℕ)). map (value_in c.in_ok-bindings.bindings) names) c.variables_of.ensures)
