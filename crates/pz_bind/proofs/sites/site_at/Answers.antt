use Rattle.std.proofs.Common.{◌≡◌, ◌∙◌, sym, ap, Some, slice_get}
use Rattle.std.proofs.lemmas.Option.{slice_get-get_or}
use Rattle.pz_classes.specs.CheckedView.{checked_model}
use Rattle.pz_bind.proofs.SiteSteps.{known_at, cluster_site}
use Rattle.pz_bind.proofs.sites.site_at.Goals as goal

pub returns : goal.returns
returns c = λ place stands class_is.
    let m = checked_model c.args.checked.now in
    let site = c.index-sites-standing.result in
    let x = c.instance-instance.result.now in
    let at : slice_get c.args.sites.now c.args.standing.level ≡ Some site = slice_get-get_or c.args.sites.now c.args.standing.level site c.requires.within ∙ ap Some (sym c.index-sites-standing.is) in
    cluster_site m c.args.sites.now c.args.standing place site x c.args.class c.in_ok-path_of.field-0 c.in_ok-below.field-0
    (known_at m c.args.sites.now c.args.standing place site x at c.instance-instance.ensures stands) class_is c.in_ok-path_of.ensures (λ q. c.in_ok-below.ensures q)
