use Rattle.std.proofs.Common.{sym, subst, List, arith}
use Rattle.pz_classes.specs.CheckedView.{checked_model}
use Rattle.pz_bind.specs.declared.sites.Site.{Site}
use Rattle.pz_bind.specs.devices.Sites.{MayStand, StandsIn}
use Rattle.pz_bind.proofs.SiteSteps.{level_place, may_stand, stands_in, one_known}
use Rattle.pz_bind.proofs.sites.sites_of.Goals as goal

pub site_of-requires : goal.site_of-requires
site_of-requires c =
    let m = checked_model c.args.checked.now in
    let l = c.level-item.result in
    let p = level_place m c.args.levels.now l c.loop-level.level-index c.requires c.loop-level-test.true c.level-item.is in
    subst (λ (sites : List Site). MayStand m sites l.standing) (sym c.as_slice.ensures)
    (may_stand m c.loop-level.level-index c.loop-level.sites l.standing p.0 c.loop-level.invariant p.2.stands)

pub loop-level-preserved : goal.loop-level-preserved
loop-level-preserved c =
    let m = checked_model c.args.checked.now in
    let l = c.level-item.result in
    let p = level_place m c.args.levels.now l c.loop-level.level-index c.requires c.loop-level-test.true c.level-item.is in
    let stands = subst (λ (sites : List Site). StandsIn m sites l.standing p.0) (sym c.as_slice.ensures) (stands_in m c.loop-level.level-index c.loop-level.sites l.standing p.0 c.loop-level.invariant p.2.stands) in
    one_known m c.loop-level.level-index _ c.loop-level.sites _ c.in_ok-site.site p.0 c.loop-level.invariant (omega arith) p.1 (c.in_ok-site.ensures p.0 stands p.2.class) c.in_ok-push.ensures.ok
