use Rattle.std.proofs.Common.{◌≡◌, ◌∙◌, ◌∷◌, List, ap, sym, subst, length, arith}
use Rattle.std.specs.List.{All}
use Rattle.std.specs.Vec.Iter.{into_iter_items}
use Rattle.std.proofs.lemmas.List.{nil_from_length}
use Rattle.std.proofs.lemmas.List.Elements.{All-head, All-rest}
use Rattle.pz_term_enabled.specs.declared.found.ActiveReceive.{ActiveReceive}
use Rattle.pz_term_enabled.specs.devices.Adding.{receiver_of}
use Rattle.pz_term_enabled.specs.devices.Seen.{HasPort, wire_at}
use Rattle.pz_term_enabled.proofs.Moving.{kept_one, kept_all}
use Rattle.pz_term_enabled.proofs.adding.add_receivers.Goals as goal

pub loop-receiving-preserved : goal.loop-receiving-preserved
loop-receiving-preserved c =
    let x = c.in-Some.receiving in
    let left = into_iter_items c.loop-receiving.receiving-iterator in
    let rest = into_iter_items c.next.new.self in
    let steps : left ≡ x ∷ rest = c.in-Some.ensures.steps.0 in
    record {
      counted = let was = c.loop-receiving.invariant.counted in let gone = c.in-Some.ensures.steps.1 in let short = ap length steps in omega arith;
      left = λ m wired has. All-rest (λ (y : ActiveReceive). HasPort wired y.port) x rest left steps (c.loop-receiving.invariant.left m wired has);
      added = λ m wired has.
          let all : All (λ (y : ActiveReceive). HasPort wired y.port) (x ∷ rest) = subst (λ (xs : List ActiveReceive). All (λ (y : ActiveReceive). HasPort wired y.port) xs) steps (c.loop-receiving.invariant.left m wired has) in
          kept_one (receiver_of (wire_at wired) c.args.process) left rest x c.loop-receiving.receivers.items c.add_receiver.new.receivers.items _ steps
          (c.in_ok-add_receiver.ensures m wired (All-head (λ (y : ActiveReceive). HasPort wired y.port) x rest all)) (c.loop-receiving.invariant.added m wired has);
    }

pub returns : goal.returns
returns c = λ m wired has.
    let none = nil_from_length _ (sym c.loop-receiving.invariant.counted ∙ c.in-None.ensures.steps.0) in
    kept_all (receiver_of (wire_at wired) c.args.process) _ c.loop-receiving.receivers.items _ none (c.loop-receiving.invariant.added m wired has)
