use Rattle.std.proofs.Common.{refl, arith}
use Rattle.std.proofs.lemmas.List.{nil_from_length}
use Rattle.pz_lexer.proofs.HeadSteps.{takes_opening}
use Rattle.pz_lexer.proofs.heads.Following.put_before.Goals as goal

pub returns-in-Opening : goal.returns-in-Opening
returns-in-Opening c =
    rw c.in-Opening.is
    (takes_opening c.args.self.now _ c.pop.result refl c.unwrap_or-self.ensures c.pop.ensures.items
    (λ e. let h = rw e at c.pop.ensures.cases in nil_from_length c.args.self.now.closings.items (omega (arith, h.0, c.args.self.now.closings.ok.0))))
