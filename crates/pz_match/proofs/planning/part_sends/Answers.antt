-- What goes, and what stays.
use Rattle.std.proofs.Common.{◌≡◌, ◌-◌, ◌++◌, ◌∙◌, sym, subst, List, length, take, drop, replicate, Option, None, arith}
use Rattle.std.specs.Prelude.{map}
use Rattle.pz_offer.specs.declared.ends.SendOffer.{SendOffer}
use Rattle.pz_match.specs.declared.kept.Sending.{Sending}
use Rattle.pz_match.specs.declared.kept.Stay.{Stay}
use Rattle.pz_match.specs.devices.Again.{Beside, SameSend}
use Rattle.pz_match.specs.devices.Staying.{MaySend, send_stay, stays_part}
use Rattle.pz_match.specs.devices.Tallies.{Moves, nothing, sends_part}
use Rattle.pz_match.proofs.Planned.{parted_sends, may_send}
use Rattle.pz_match.proofs.planning.part_sends.Goals as goal

pub returns-clause-moves : goal.returns-clause-moves
returns-clause-moves c =
    let xs = c.args.sends.now in
    let os = c.args.offers.now in
    let f = c.sends_in_front-front.result in
    let b = c.sends_behind-back.result in
    let k = length (drop f xs) - b in
    let n = length (drop f os) - b in
    let rest : c.split_at.result.1.now ≡ drop f xs = c.split_at.ensures.back in
    let others : c.split_at-2.result.1.now ≡ drop f os = c.split_at-2.ensures.back in
    let last : c.split_at-3.result.1.now ≡ drop k (drop f xs) = c.split_at-3.ensures.back ∙ (λ i. drop (length (rest i) - b) (rest i)) in
    let first : c.plan_sends.new.plan.items ≡ map (send_stay c.args.receives.now) (take f xs) = c.in_ok-plan_sends.ensures ∙ (λ i. c.clear.ensures.items i ++ map (send_stay c.args.receives.now) (c.split_at.ensures.front i)) in
    let come : c.plan_others.new.plan.items ≡ map (send_stay c.args.receives.now) (take f xs) ++ replicate n None = c.in_ok-plan_others.ensures ∙ (λ i. first i ++ replicate (length (others i) - b) None) in
    let plan : c.plan_sends-2.new.plan.items ≡ (map (send_stay c.args.receives.now) (take f xs) ++ replicate n None) ++ map (send_stay c.args.receives.now) (drop k (drop f xs)) = c.in_ok-plan_sends-2.ensures ∙ (λ i. come i ++ map (send_stay c.args.receives.now) (last i)) in
    let gone : c.split_at-3.result.0.now ≡ take k (drop f xs) = c.split_at-3.ensures.front ∙ (λ i. take (length (rest i) - b) (rest i)) in
    let less = subst (λ (ys : List Sending). Moves c.args.groups.now c.withdraw_sends.new.groups ((sends_part c.args.receives.now) ys) nothing) gone c.in_ok-withdraw_sends.ensures.moves in
    subst (λ (p : List (Option Stay)). Moves c.args.groups.now c.withdraw_sends.new.groups ((sends_part c.args.receives.now) xs) (stays_part p)) (sym plan) (parted_sends c.args.receives.now c.args.groups.now c.withdraw_sends.new.groups xs f k n less)

pub returns-clause-may : goal.returns-clause-may
returns-clause-may c g keyed =
    let xs = c.args.sends.now in
    let os = c.args.offers.now in
    let f = c.sends_in_front-front.result in
    let b = c.sends_behind-back.result in
    let k = length (drop f xs) - b in
    let n = length (drop f os) - b in
    let rest : c.split_at.result.1.now ≡ drop f xs = c.split_at.ensures.back in
    let others : c.split_at-2.result.1.now ≡ drop f os = c.split_at-2.ensures.back in
    let last : c.split_at-3.result.1.now ≡ drop k (drop f xs) = c.split_at-3.ensures.back ∙ (λ i. drop (length (rest i) - b) (rest i)) in
    let first : c.plan_sends.new.plan.items ≡ map (send_stay c.args.receives.now) (take f xs) = c.in_ok-plan_sends.ensures ∙ (λ i. c.clear.ensures.items i ++ map (send_stay c.args.receives.now) (c.split_at.ensures.front i)) in
    let come : c.plan_others.new.plan.items ≡ map (send_stay c.args.receives.now) (take f xs) ++ replicate n None = c.in_ok-plan_others.ensures ∙ (λ i. first i ++ replicate (length (others i) - b) None) in
    let plan : c.plan_sends-2.new.plan.items ≡ (map (send_stay c.args.receives.now) (take f xs) ++ replicate n None) ++ map (send_stay c.args.receives.now) (drop k (drop f xs)) = c.in_ok-plan_sends-2.ensures ∙ (λ i. come i ++ map (send_stay c.args.receives.now) (last i)) in
    let same : Beside SameSend (drop k (drop f xs)) (drop n (drop f os))
    = subst (λ (ys : List Sending). Beside SameSend (drop (length ys - b) ys) (drop n (drop f os))) rest
    (subst (λ (vs : List SendOffer). Beside SameSend (drop (length c.split_at.result.1.now - b) c.split_at.result.1.now) (drop (length vs - b) vs)) others c.sends_behind-back.ensures.same) in
    subst (λ (p : List (Option Stay)). Beside (MaySend g) p os) (sym plan) (may_send g c.args.receives.now xs os f k n (omega arith) c.sends_in_front-front.ensures.same same keyed)
