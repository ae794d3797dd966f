-- What goes, and what stays.
use Rattle.std.proofs.Common.{◌≡◌, ◌-◌, ◌++◌, ◌∙◌, sym, subst, List, length, take, drop, replicate, Option, None, arith}
use Rattle.std.specs.Prelude.{map}
use Rattle.pz_offer.specs.declared.ends.ReceiveOffer.{ReceiveOffer}
use Rattle.pz_match.specs.declared.kept.Receiving.{Receiving}
use Rattle.pz_match.specs.declared.kept.Stay.{Stay}
use Rattle.pz_match.specs.devices.Again.{Beside, SameReceive}
use Rattle.pz_match.specs.devices.Staying.{MayReceive, receive_stay, stays_part}
use Rattle.pz_match.specs.devices.Tallies.{Moves, nothing, receives_part}
use Rattle.pz_match.proofs.Planned.{parted_receives, may_receive}
use Rattle.pz_match.proofs.planning.part_receives.Goals as goal

pub returns-clause-moves : goal.returns-clause-moves
returns-clause-moves c =
    let xs = c.args.receives.now in
    let os = c.args.offers.now in
    let f = c.receives_in_front-front.result in
    let b = c.receives_behind-back.result in
    let k = length (drop f xs) - b in
    let n = length (drop f os) - b in
    let rest : c.split_at.result.1.now ≡ drop f xs = c.split_at.ensures.back in
    let others : c.split_at-2.result.1.now ≡ drop f os = c.split_at-2.ensures.back in
    let last : c.split_at-3.result.1.now ≡ drop k (drop f xs) = c.split_at-3.ensures.back ∙ (λ i. drop (length (rest i) - b) (rest i)) in
    let first : c.plan_receives.new.plan.items ≡ map receive_stay (take f xs) = c.in_ok-plan_receives.ensures ∙ (λ i. c.clear.ensures.items i ++ map receive_stay (c.split_at.ensures.front i)) in
    let come : c.plan_others.new.plan.items ≡ map receive_stay (take f xs) ++ replicate n None = c.in_ok-plan_others.ensures ∙ (λ i. first i ++ replicate (length (others i) - b) None) in
    let plan : c.plan_receives-2.new.plan.items ≡ (map receive_stay (take f xs) ++ replicate n None) ++ map receive_stay (drop k (drop f xs)) = c.in_ok-plan_receives-2.ensures ∙ (λ i. come i ++ map receive_stay (last i)) in
    let gone : c.split_at-3.result.0.now ≡ take k (drop f xs) = c.split_at-3.ensures.front ∙ (λ i. take (length (rest i) - b) (rest i)) in
    let less = subst (λ (ys : List Receiving). Moves c.args.groups.now c.withdraw_receives.new.groups (receives_part ys) nothing) gone c.in_ok-withdraw_receives.ensures.moves in
    subst (λ (p : List (Option Stay)). Moves c.args.groups.now c.withdraw_receives.new.groups (receives_part xs) (stays_part p)) (sym plan) (parted_receives c.args.groups.now c.withdraw_receives.new.groups xs f k n less)

pub returns-clause-may : goal.returns-clause-may
returns-clause-may c g keyed =
    let xs = c.args.receives.now in
    let os = c.args.offers.now in
    let f = c.receives_in_front-front.result in
    let b = c.receives_behind-back.result in
    let k = length (drop f xs) - b in
    let n = length (drop f os) - b in
    let rest : c.split_at.result.1.now ≡ drop f xs = c.split_at.ensures.back in
    let others : c.split_at-2.result.1.now ≡ drop f os = c.split_at-2.ensures.back in
    let last : c.split_at-3.result.1.now ≡ drop k (drop f xs) = c.split_at-3.ensures.back ∙ (λ i. drop (length (rest i) - b) (rest i)) in
    let first : c.plan_receives.new.plan.items ≡ map receive_stay (take f xs) = c.in_ok-plan_receives.ensures ∙ (λ i. c.clear.ensures.items i ++ map receive_stay (c.split_at.ensures.front i)) in
    let come : c.plan_others.new.plan.items ≡ map receive_stay (take f xs) ++ replicate n None = c.in_ok-plan_others.ensures ∙ (λ i. first i ++ replicate (length (others i) - b) None) in
    let plan : c.plan_receives-2.new.plan.items ≡ (map receive_stay (take f xs) ++ replicate n None) ++ map receive_stay (drop k (drop f xs)) = c.in_ok-plan_receives-2.ensures ∙ (λ i. come i ++ map receive_stay (last i)) in
    let same : Beside SameReceive (drop k (drop f xs)) (drop n (drop f os))
    = subst (λ (ys : List Receiving). Beside SameReceive (drop (length ys - b) ys) (drop n (drop f os))) rest
    (subst (λ (vs : List ReceiveOffer). Beside SameReceive (drop (length c.split_at.result.1.now - b) c.split_at.result.1.now) (drop (length vs - b) vs)) others c.receives_behind-back.ensures.same) in
    subst (λ (p : List (Option Stay)). Beside (MayReceive g) p os) (sym plan) (may_receive g xs os f k n (omega arith) c.receives_in_front-front.ensures.same same keyed)
