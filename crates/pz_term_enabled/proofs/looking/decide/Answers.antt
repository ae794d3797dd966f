use Rattle.std.proofs.Common.{◌≡◌, ℕ, List, length, Vec, subst, sym, ap, ◌∙◌, arith}
use Rattle.std.specs.declared.alloc.Global.{Global}
use Rattle.pz_rules.specs.declared.action.Action.{Action}
use Rattle.pz_rules.specs.declared.moment.Moment.{Moment}
use Rattle.pz_rules.specs.Moments.{IsMoment}
use Rattle.pz_term_enabled.specs.Looking.{AreActionsAt}
use Rattle.pz_term_enabled.specs.devices.Deciding.{calm_moment}
use Rattle.pz_term_enabled.proofs.Moments.{troubled_moment, found_moment, found_actions}
use Rattle.pz_term_enabled.proofs.looking.decide.Goals as goal

pub returns-in-Some-clause-moment : goal.returns-in-Some-clause-moment
returns-in-Some-clause-moment c setting config low decides = troubled_moment setting config low c.args.found.now c.args.trouble c.in-Some.trouble c.in-Some.is decides

pub returns-clause-moment : goal.returns-clause-moment
returns-clause-moment c setting config low decides =
    let found = c.args.found.now in
    let count : c.len.result ≡ length c.replace-actions.result.items = omega (arith, c.len.ensures, c.replace-actions.result.ok.0) in
    let offers : c.len.result ≡ length found.internal.items = count ∙ ap (λ (v : Vec Action Global). length v.items) c.replace-actions.ensures.value in
    subst (λ (m : Moment). IsMoment setting config m) (sym (c.calm_moment-moment.ensures ∙ ap (λ (n : ℕ). calm_moment n found.least found.done) offers))
    (found_moment setting config low c.one_list_of_offers.ensures.one found c.args.trouble c.in_default.is decides)

pub returns-clause-actions : goal.returns-clause-actions
returns-clause-actions c setting config decides =
    let found = c.args.found.now in
    let count : c.len.result ≡ length c.replace-actions.result.items = omega (arith, c.len.ensures, c.replace-actions.result.ok.0) in
    let taken : c.replace-actions.result.items ≡ found.internal.items = ap (λ (v : Vec Action Global). v.items) c.replace-actions.ensures.value in
    let moment : c.calm_moment-moment.result ≡ calm_moment (length found.internal.items) found.least found.done =
    c.calm_moment-moment.ensures ∙ ap (λ (n : ℕ). calm_moment n found.least found.done) (count ∙ ap (λ (l : List Action). length l) taken) in
    subst (λ (l : List Action). AreActionsAt setting config c.calm_moment-moment.result l) (sym taken)
    (subst (λ (m : Moment). AreActionsAt setting config m found.internal.items) (sym moment) (found_actions setting config found c.args.trouble c.in_default.is decides))
