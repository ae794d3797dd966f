use Rattle.std.proofs.Common.{◌≡◌, ◌∙◌, ◌∷◌, List, ap, sym, subst, length, arith}
use Rattle.std.specs.List.{All}
use Rattle.std.specs.Vec.Iter.{into_iter_items}
use Rattle.std.proofs.lemmas.List.{nil_from_length}
use Rattle.std.proofs.lemmas.List.Elements.{All-head, All-rest}
use Rattle.pz_term_enabled.specs.declared.found.ActiveSend.{ActiveSend}
use Rattle.pz_term_enabled.specs.devices.Adding.{sender_of}
use Rattle.pz_term_enabled.specs.devices.Seen.{HasPort, wire_at}
use Rattle.pz_term_enabled.proofs.Moving.{kept_one, kept_all}
use Rattle.pz_term_enabled.proofs.adding.add_senders.Goals as goal

pub loop-sending-preserved : goal.loop-sending-preserved
loop-sending-preserved c =
    let x = c.in-Some.sending in
    let left = into_iter_items c.loop-sending.sending-iterator in
    let rest = into_iter_items c.next.new.self in
    let steps : left ≡ x ∷ rest = c.in-Some.ensures.steps.0 in
    record {
      counted = let was = c.loop-sending.invariant.counted in let gone = c.in-Some.ensures.steps.1 in let short = ap length steps in omega arith;
      left = λ m wired has. All-rest (λ (y : ActiveSend). HasPort wired y.port) x rest left steps (c.loop-sending.invariant.left m wired has);
      added = λ m wired has.
          let all : All (λ (y : ActiveSend). HasPort wired y.port) (x ∷ rest) = subst (λ (xs : List ActiveSend). All (λ (y : ActiveSend). HasPort wired y.port) xs) steps (c.loop-sending.invariant.left m wired has) in
          kept_one (sender_of (wire_at wired) c.args.process) left rest x c.loop-sending.senders.items c.add_sender.new.senders.items _ steps
          (c.in_ok-add_sender.ensures m wired (All-head (λ (y : ActiveSend). HasPort wired y.port) x rest all)) (c.loop-sending.invariant.added m wired has);
    }

pub returns : goal.returns
returns c = λ m wired has.
    let none = nil_from_length _ (sym c.loop-sending.invariant.counted ∙ c.in-None.ensures.steps.0) in
    kept_all (sender_of (wire_at wired) c.args.process) _ c.loop-sending.senders.items _ none (c.loop-sending.invariant.added m wired has)
