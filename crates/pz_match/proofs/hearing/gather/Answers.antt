-- One receive more.
use Rattle.std.proofs.Common.{◌+◌, ◌∙◌, sym, subst, ℕ, List, take, arith}
use Rattle.std.specs.Prelude.{Contains}
use Rattle.std.proofs.lemmas.Bool.{false≢true}
use Rattle.std.proofs.lemmas.List.{take_all}
use Rattle.pz_match.specs.declared.kept.Receiving.{Receiving}
use Rattle.pz_match.specs.devices.Users.{Gathered}
use Rattle.pz_match.proofs.Steps.{gathered_more}
use Rattle.pz_match.proofs.hearing.gather.Goals as goal
use Rattle.pz_match.proofs.hearing.gather.Goals.{then-receive+in_ok-add_all, else-receive}

pub loop-receive-preserved : goal.loop-receive-preserved
loop-receive-preserved c =
    let inv = c.loop-receive.invariant in
    let rs = c.args.receives.now in
    let i = c.loop-receive.receive-index in
    let r : Receiving = c.receive-item.result in
    let keeps : (n : ℕ) → Contains c.args.places.now n → Contains c.if-receive.places n
    = elim c.if-receive.branch [
      | then-receive+in_ok-add_all w ↦ subst (λ (ps : List ℕ). (n : ℕ) → Contains c.args.places.now n → Contains ps n) (sym w.places-is) (λ n on. w.add_all.ensures.keeps n (inv.keeps n on))
      | else-receive w ↦ subst (λ (ps : List ℕ). (n : ℕ) → Contains c.args.places.now n → Contains ps n) (sym w.places-is) inv.keeps
    ] in
    let gathered : Gathered c.args.senders.now c.if-receive.places (take (i + 1) rs)
    = elim c.if-receive.branch [
      | then-receive+in_ok-add_all w ↦ subst (λ (ps : List ℕ). Gathered c.args.senders.now ps (take (i + 1) rs)) (sym w.places-is)
          (gathered_more c.args.senders.now c.loop-receive.places w.add_all.new.self rs i r c.loop-receive-test.true c.receive-item.is w.add_all.ensures.keeps
          (λ asks n on. w.in_ok-add_all.ensures.has n (subst (λ (ms : List ℕ). Contains ms n) (sym w.list.ensures.list) on)) inv.gathered)
      | else-receive w ↦ subst (λ (ps : List ℕ). Gathered c.args.senders.now ps (take (i + 1) rs)) (sym w.places-is)
          (gathered_more c.args.senders.now c.loop-receive.places c.loop-receive.places rs i r c.loop-receive-test.true c.receive-item.is (λ n on. on)
          (λ asks n on. absurd (false≢true (sym w.if-receive.false ∙ asks))) inv.gathered)
    ] in
    record { keeps = keeps; gathered = gathered }

pub returns-clause-gathered : goal.returns-clause-gathered
returns-clause-gathered c =
    subst (λ (rs : List Receiving). Gathered c.args.senders.now c.loop-receive.places rs) (take_all c.loop-receive.receive-index c.args.receives.now (omega (arith, c.loop-receive-test.false))) c.loop-receive.invariant.gathered
