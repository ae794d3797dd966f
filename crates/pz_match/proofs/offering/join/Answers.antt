-- The send is in its group, with what is said to it.
use Rattle.std.proofs.Common.{◌≡◌, ap, sym, subst, refl, ℕ, List, [], ◌∷◌, length, arith}
use Rattle.std.specs.Prelude.{map, count_by, All}
use Rattle.std.proofs.lemmas.List.Elements.{All-weaker}
use Rattle.std.proofs.lemmas.Option.{slice_get_within}
use Rattle.pz_match.specs.declared.offers.Sender.{Sender}
use Rattle.pz_match.specs.declared.groups.Tally.{Tally}
use Rattle.pz_match.specs.declared.rows.Row.{Row}
use Rattle.pz_match.specs.devices.Kept.{Kept, kept, asks_in}
use Rattle.pz_match.specs.devices.Tallies.{HasKey, Moves, only_in, send_tally}
use Rattle.pz_match.specs.devices.Holding.{ReceiveKeyed}
use Rattle.pz_match.specs.devices.Seeking.{OnlyAt}
use Rattle.pz_match.specs.devices.Staying.{stay_part}
use Rattle.pz_match.proofs.Askers.{only_askers}
use Rattle.pz_match.proofs.Fitting.{may_ask_all}
use Rattle.pz_match.proofs.Offered.{receive_keyed, speaks}
use Rattle.pz_match.proofs.offering.join.Goals as goal

pub rows_for-requires-clause-covers : goal.rows_for-requires-clause-covers
rows_for-requires-clause-covers g c =
    let known = c.requires.covers c.in_ok-seat.seat.group in
    let same = (c.in_ok-seat.ensures.tallies c.in_ok-seat.seat.group).asking in
    let read = ap (λ t. t.asking) c.tally-asking.ensures in
    omega (arith, known, same, read)

pub rows_for-requires-clause-only : goal.rows_for-requires-clause-only
rows_for-requires-clause-only g c =
    let all = map kept c.args.all.now in
    let key : HasKey c.seat.new.groups.groups c.in_ok-seat.seat.group c.args.sender.now.wire c.args.sender.now.message (length c.args.sender.now.parcel.values)
    = subst (λ n. HasKey c.seat.new.groups.groups c.in_ok-seat.seat.group c.args.sender.now.wire c.args.sender.now.message n) (ap length c.values-values.ensures.values) c.in_ok-seat.ensures.found in
    subst (λ (us : List ℕ). OnlyAt us all (λ (e : Kept). count_by (asks_in c.in_ok-seat.seat.group) e.receives)) (sym c.list-askers.ensures.list)
    (only_askers c.seat.new.groups all c.args.askers.now c.args.sender.now.wire c.in_ok-seat.seat.group c.args.sender.now.message (length c.args.sender.now.parcel.values) key
    (All-weaker (λ (e : Kept). All (ReceiveKeyed c.args.groups.now) e.receives) (λ (e : Kept). All (ReceiveKeyed c.seat.new.groups) e.receives)
    (λ e ok. All-weaker (ReceiveKeyed c.args.groups.now) (ReceiveKeyed c.seat.new.groups) (receive_keyed c.in_ok-seat.ensures.follows) e.receives ok) all c.requires.keyed)
    c.requires.askers)

pub rows_for-requires-clause-takes : goal.rows_for-requires-clause-takes
rows_for-requires-clause-takes g c =
    let s : Sender = c.args.sender.now in
    let all = map kept c.args.all.now in
    let key : HasKey c.seat.new.groups.groups c.in_ok-seat.seat.group s.wire s.message (length s.parcel.values)
    = subst (λ n. HasKey c.seat.new.groups.groups c.in_ok-seat.seat.group s.wire s.message n) (ap length c.values-values.ensures.values) c.in_ok-seat.ensures.found in
    may_ask_all g.J.Judge.takes c.args.judge.now c.seat.new.groups all s c.in_ok-seat.seat.group (s ∷ []) key (0, omega arith, refl)
    (All-weaker (λ (e : Kept). All (ReceiveKeyed c.args.groups.now) e.receives) (λ (e : Kept). All (ReceiveKeyed c.seat.new.groups) e.receives)
    (λ e ok. All-weaker (ReceiveKeyed c.args.groups.now) (ReceiveKeyed c.seat.new.groups) (receive_keyed c.in_ok-seat.ensures.follows) e.receives ok) all c.requires.keyed)
    c.requires.own c.requires.takes

pub add_send-requires : goal.add_send-requires
add_send-requires g c =
    let found = c.in_ok-seat.ensures.found in
    slice_get_within c.seat.new.groups.groups c.in_ok-seat.seat.group found.group found.there

pub returns-clause-speaks : goal.returns-clause-speaks
returns-clause-speaks g c =
    let s : Sender = c.args.sender.now in
    let seat = c.in_ok-seat.seat in
    let key = subst (λ n. HasKey c.seat.new.groups.groups seat.group s.wire s.message n) (ap length c.values-values.ensures.values) c.in_ok-seat.ensures.found in
    let counted : only_in seat.group seat.tally ≡ stay_part c.args.stay = λ i n. c.in_ok-seat.ensures.counts n i in
    let moves : Moves c.seat.new.groups c.add_send.new.groups (stay_part c.args.stay) (only_in seat.group (send_tally c.args.receives.now seat.group c.in_ok-rows.rows))
    = subst (λ (less : ℕ → Tally). Moves c.seat.new.groups c.add_send.new.groups less (only_in seat.group (send_tally c.args.receives.now seat.group c.in_ok-rows.rows))) counted
    (subst (λ (rows : List Row). Moves c.seat.new.groups c.add_send.new.groups (only_in seat.group seat.tally) (only_in seat.group (send_tally c.args.receives.now seat.group rows))) c.as_slice.ensures c.in_ok-add_send.ensures.moves) in
    speaks (g.J.Judge.verdict c.args.judge.now) (map kept c.args.all.now) c.args.receives.now c.args.groups.now c.seat.new.groups c.add_send.new.groups _ (stay_part c.args.stay)
    c.in_ok-seat.ensures.follows c.in_ok-seat.ensures.tallies key c.in_ok-add_send.ensures.follows moves c.in_ok-rows.ensures.rows
