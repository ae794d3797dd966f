use Rattle.std.proofs.Common.{◌≡◌, sym, ap, ◌∙◌, subst, List}
use Rattle.pz_bind_levels.specs.declared.expansion.Level.{Level}
use Rattle.pz_bind_levels.specs.devices.Walking.{layouts_of, wire_at}
use Rattle.pz_bind_levels.proofs.Reading.{Says, says}
use Rattle.pz_bind_levels.proofs.expansion.Expansion.wire.Goals as goal

pub returns : goal.returns
returns c = λ system place linked kept stands.
    let layouts = layouts_of c.args.plans.now in
    let found : c.wire_at.result ≡ wire_at layouts c.args.self.now.levels c.args.standing c.args.port = c.wire_at.ensures ∙ ap (λ (ls : List Level). wire_at layouts ls c.args.standing c.args.port) c.as_slice.ensures in
    subst (Says layouts system linked c.args.self.now kept c.args.port place) (sym found) (says layouts system linked c.args.self.now kept c.args.port c.args.standing place stands)
