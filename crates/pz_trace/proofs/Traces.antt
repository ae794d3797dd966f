-- Whole traces of worked models, computed from the definitions.
use Rattle.std.proofs.Common.{◌≡◌, refl, ℕ, pos, List, [], ◌∷◌, ◌++◌, codes}
use Rattle.std.specs.Fmt.{digits}
use Rattle.std.specs.List.{flat_map}
use Rattle.pz_rules.specs.pz_syntax.Classes.{ModelTree}
use Rattle.pz_rules.specs.pz_value.declared.value.Value.TheVariants as value
use Rattle.pz_rules.specs.pz_copy.Parcels.{ParcelView}
use Rattle.pz_rules.specs.declared.action.Kind.TheVariants.{Eval, Test, Expire, Call}
use Rattle.pz_rules.specs.Runs.{Event, acted, passed}
use Rattle.pz_trace.specs.declared.ending.Ending.TheVariants as ending
use Rattle.pz_trace.specs.Lines.{newline}
use Rattle.pz_trace.specs.TraceText.{trace_text}
use Rattle.pz_trace.proofs.Worked.{id, instance, channel_of, inner, process, system_of, by_first, does, hands, nothing, first_and, handing_on, nested}

abbrev lines : List (List ℕ) → List ℕ
lines texts = flat_map (λ l. l ++ newline) texts

abbrev integer : ℕ → ParcelView
integer n = record { values = value.Int (pos n) ∷ []; objects = [] }

-- two senders, of which one passes the condition of the receiver
-- system instances a : S b : S r : R channels {a.o, b.o, r.i}
abbrev two_senders : ModelTree
two_senders = record {
  decls =
      process (codes "S") (id (codes "o") ∷ []) ∷ process (codes "R") (id (codes "i") ∷ []) ∷
      system_of (instance (codes "a") (codes "S") ∷ instance (codes "b") (codes "S") ∷ instance (codes "r") (codes "R") ∷ [])
      (channel_of (inner (codes "a") (codes "o") ∷ inner (codes "b") (codes "o") ∷ inner (codes "r") (codes "i") ∷ []) ∷ []) ∷ [];
}

abbrev condition_events : List Event
condition_events =
    acted 0 3 0 (does 0 Call 4 6) ∷
    acted 0 2 0 (does 1 Call 4 6) ∷
    acted 0 1 0 (does 2 Call 10 6) ∷
    acted 0 1 0 (hands 0 1 2 (codes "m") (integer 3)) ∷ []

condition : trace_text (by_first two_senders) condition_events 0 ending.Deadlock ≡ lines
    (codes "poosl-trace 1" ∷
    codes "0 3 0 a call 4:6" ∷
    codes "0 2 0 b call 4:6" ∷
    codes "0 1 0 r call 10:6" ∷
    codes "0 1 0 #1 b ! m(3) -> r" ∷
    codes "0 deadlock" ∷ [])
unfolding digits
condition = refl

-- system instances s : S r : R channels {s.o, r.i}
abbrev sender_and_receiver : ModelTree
sender_and_receiver = record {
  decls =
      process (codes "S") (id (codes "o") ∷ []) ∷ process (codes "R") (id (codes "i") ∷ []) ∷
      system_of (instance (codes "s") (codes "S") ∷ instance (codes "r") (codes "R") ∷ []) (channel_of (inner (codes "s") (codes "o") ∷ inner (codes "r") (codes "i") ∷ []) ∷ []) ∷ [];
}

-- a delay that is interrupted, and goes on afterwards
abbrev interrupted_events : List Event
interrupted_events =
    acted 0 2 0 (does 0 Call 4 6) ∷
    acted 0 1 0 (does 1 Call 9 6) ∷
    passed 0 4 ∷
    acted 4 1 0 (does 0 Expire 5 15) ∷
    acted 4 1 0 (hands 0 0 1 (codes "m") nothing) ∷
    passed 4 7 ∷
    acted 11 1 0 (does 1 Expire 10 45) ∷
    passed 11 6 ∷
    acted 17 1 0 (does 1 Expire 10 25) ∷ []

interrupted : trace_text (by_first sender_and_receiver) interrupted_events 17 ending.End ≡ lines
    (codes "poosl-trace 1" ∷
    codes "0 2 0 s call 4:6" ∷
    codes "0 1 0 r call 9:6" ∷
    codes "0 time 4" ∷
    codes "4 1 0 s expire 5:15" ∷
    codes "4 1 0 #1 s ! m() -> r" ∷
    codes "4 time 7" ∷
    codes "11 1 0 r expire 10:45" ∷
    codes "11 time 6" ∷
    codes "17 1 0 r expire 10:25" ∷
    codes "17 end" ∷ [])
unfolding digits
interrupted = refl

-- arguments whose effects stay
abbrev effects_events : List Event
effects_events =
    acted 0 2 0 (does 0 Call 9 6) ∷
    acted 0 2 0 (does 0 Eval 10 15) ∷
    acted 0 1 0 (does 1 Call 15 6) ∷
    passed 0 2 ∷
    acted 2 1 0 (does 1 Expire 16 15) ∷
    acted 2 1 0 (hands 0 0 1 (codes "m") (integer 2)) ∷
    passed 2 2 ∷
    acted 4 1 0 (does 1 Expire 16 32) ∷
    acted 4 1 0 (hands 0 0 1 (codes "m") (integer 1)) ∷ []

effects : trace_text (by_first sender_and_receiver) effects_events 4 ending.End ≡ lines
    (codes "poosl-trace 1" ∷
    codes "0 2 0 s call 9:6" ∷
    codes "0 2 0 s eval 10:15" ∷
    codes "0 1 0 r call 15:6" ∷
    codes "0 time 2" ∷
    codes "2 1 0 r expire 16:15" ∷
    codes "2 1 0 #1 s ! m(2) -> r" ∷
    codes "2 time 2" ∷
    codes "4 1 0 r expire 16:32" ∷
    codes "4 1 0 #1 s ! m(1) -> r" ∷
    codes "4 end" ∷ [])
unfolding digits
effects = refl

-- two objects that name each other, sent and sent on
abbrev handed_on_events : List Event
handed_on_events =
    acted 0 3 0 (does 0 Call 9 6) ∷
    acted 0 3 0 (does 0 Eval 11 1) ∷
    acted 0 3 0 (does 0 Eval 11 14) ∷
    acted 0 3 0 (does 0 Eval 12 1) ∷
    acted 0 3 0 (does 0 Eval 12 14) ∷
    acted 0 2 0 (does 1 Call 18 6) ∷
    acted 0 2 0 (does 2 Call 24 6) ∷
    acted 0 1 0 (hands 0 0 1 (codes "m") (first_and 1)) ∷
    acted 0 1 0 (hands 1 1 2 (codes "m") (first_and 0)) ∷ []

handed_on : trace_text (by_first handing_on) handed_on_events 0 ending.End ≡ lines
    (codes "poosl-trace 1" ∷
    codes "0 3 0 s call 9:6" ∷
    codes "0 3 0 s eval 11:1" ∷
    codes "0 3 0 s eval 11:14" ∷
    codes "0 3 0 s eval 12:1" ∷
    codes "0 3 0 s eval 12:14" ∷
    codes "0 2 0 f call 18:6" ∷
    codes "0 2 0 e call 24:6" ∷
    codes "0 1 0 #1 s ! m(#0,#1){#0=N[#1,1];#1=N[#0,2]} -> f" ∷
    codes "0 1 0 #2 f ! m(#0,#0){#0=N[#1,1];#1=N[#0,2]} -> e" ∷
    codes "0 end" ∷ [])
unfolding digits
handed_on = refl

-- clusters in the system
abbrev clusters_events : List Event
clusters_events =
    acted 0 7 0 (does 0 Call 4 6) ∷
    acted 0 6 0 (does 1 Call 9 6) ∷
    acted 0 6 0 (does 2 Call 4 6) ∷
    acted 0 5 0 (does 3 Call 4 6) ∷
    acted 0 4 0 (does 4 Call 9 6) ∷
    acted 0 4 0 (does 5 Call 4 6) ∷
    acted 0 3 0 (does 6 Call 9 6) ∷
    acted 0 3 0 (hands 0 2 6 (codes "m") nothing) ∷
    acted 0 2 0 (hands 2 0 1 (codes "m") nothing) ∷
    acted 0 1 0 (hands 3 3 4 (codes "m") nothing) ∷ []

clusters : trace_text (by_first nested) clusters_events 0 ending.Deadlock ≡ lines
    (codes "poosl-trace 1" ∷
    codes "0 7 0 c.s call 4:6" ∷
    codes "0 6 0 c.r call 9:6" ∷
    codes "0 6 0 c.t call 4:6" ∷
    codes "0 5 0 d.s call 4:6" ∷
    codes "0 4 0 d.r call 9:6" ∷
    codes "0 4 0 d.t call 4:6" ∷
    codes "0 3 0 q call 9:6" ∷
    codes "0 3 0 #1 c.t ! m() -> q" ∷
    codes "0 2 0 c#1 c.s ! m() -> c.r" ∷
    codes "0 1 0 d#1 d.s ! m() -> d.r" ∷
    codes "0 deadlock" ∷ [])
unfolding digits
clusters = refl

-- a producer, a link that loses the first item, and a consumer
-- system instances p : Producer l : Link c : Consumer channels {p.out, l.in} {l.out, c.in} {p.ack, c.ack}
abbrev lossy : ModelTree
lossy = record {
  decls =
      process (codes "Producer") (id (codes "out") ∷ id (codes "ack") ∷ []) ∷ process (codes "Link") (id (codes "in") ∷ id (codes "out") ∷ []) ∷ process (codes "Consumer") (id (codes "in") ∷ id (codes "ack") ∷ []) ∷
      system_of (instance (codes "p") (codes "Producer") ∷ instance (codes "l") (codes "Link") ∷ instance (codes "c") (codes "Consumer") ∷ [])
      (channel_of (inner (codes "p") (codes "out") ∷ inner (codes "l") (codes "in") ∷ []) ∷ channel_of (inner (codes "l") (codes "out") ∷ inner (codes "c") (codes "in") ∷ []) ∷
      channel_of (inner (codes "p") (codes "ack") ∷ inner (codes "c") (codes "ack") ∷ []) ∷ []) ∷ [];
}

abbrev lost_events : List Event
lost_events =
    acted 0 3 0 (does 0 Call 4 6) ∷
    acted 0 3 0 (does 0 Eval 10 17) ∷
    acted 0 3 0 (does 0 Test 10 25) ∷
    acted 0 3 0 (does 0 Call 10 44) ∷
    acted 0 2 0 (does 1 Call 4 6) ∷
    acted 0 2 0 (does 2 Call 4 6) ∷
    acted 0 1 0 (hands 0 0 1 (codes "item") (integer 1)) ∷
    passed 0 1 ∷
    acted 1 1 0 (does 1 Expire 17 13) ∷
    acted 1 1 0 (does 1 Test 18 1) ∷
    acted 1 1 0 (does 1 Eval 18 20) ∷
    acted 1 1 0 (does 1 Call 18 54) ∷
    passed 1 3 ∷
    acted 4 1 0 (does 0 Expire 11 59) ∷
    acted 4 1 0 (does 0 Test 10 25) ∷
    acted 4 1 0 (does 0 Call 10 44) ∷
    acted 4 1 0 (hands 0 0 1 (codes "item") (integer 1)) ∷
    passed 4 1 ∷
    acted 5 1 0 (does 1 Expire 17 13) ∷
    acted 5 1 0 (does 1 Test 18 1) ∷
    acted 5 1 0 (hands 1 1 2 (codes "item") (integer 1)) ∷
    acted 5 2 0 (does 1 Call 18 54) ∷
    acted 5 1 0 (hands 2 2 0 (codes "ok") (integer 1)) ∷
    acted 5 2 0 (does 0 Eval 11 45) ∷
    acted 5 2 0 (does 0 Test 10 25) ∷
    acted 5 2 0 (does 0 Call 10 44) ∷
    acted 5 2 0 (does 2 Call 22 40) ∷
    acted 5 1 0 (hands 0 0 1 (codes "item") (integer 2)) ∷
    passed 5 1 ∷
    acted 6 1 0 (does 1 Expire 17 13) ∷
    acted 6 1 0 (does 1 Test 18 1) ∷
    acted 6 1 0 (hands 1 1 2 (codes "item") (integer 2)) ∷
    acted 6 2 0 (does 1 Call 18 54) ∷
    acted 6 1 0 (hands 2 2 0 (codes "ok") (integer 2)) ∷
    acted 6 2 0 (does 0 Eval 11 45) ∷
    acted 6 2 0 (does 0 Test 10 25) ∷
    acted 6 1 0 (does 2 Call 22 40) ∷ []

lost : trace_text (by_first lossy) lost_events 6 ending.Deadlock ≡ lines
    (codes "poosl-trace 1" ∷
    codes "0 3 0 p call 4:6" ∷
    codes "0 3 0 p eval 10:17" ∷
    codes "0 3 0 p test 10:25" ∷
    codes "0 3 0 p call 10:44" ∷
    codes "0 2 0 l call 4:6" ∷
    codes "0 2 0 c call 4:6" ∷
    codes "0 1 0 #1 p ! item(1) -> l" ∷
    codes "0 time 1" ∷
    codes "1 1 0 l expire 17:13" ∷
    codes "1 1 0 l test 18:1" ∷
    codes "1 1 0 l eval 18:20" ∷
    codes "1 1 0 l call 18:54" ∷
    codes "1 time 3" ∷
    codes "4 1 0 p expire 11:59" ∷
    codes "4 1 0 p test 10:25" ∷
    codes "4 1 0 p call 10:44" ∷
    codes "4 1 0 #1 p ! item(1) -> l" ∷
    codes "4 time 1" ∷
    codes "5 1 0 l expire 17:13" ∷
    codes "5 1 0 l test 18:1" ∷
    codes "5 1 0 #2 l ! item(1) -> c" ∷
    codes "5 2 0 l call 18:54" ∷
    codes "5 1 0 #3 c ! ok(1) -> p" ∷
    codes "5 2 0 p eval 11:45" ∷
    codes "5 2 0 p test 10:25" ∷
    codes "5 2 0 p call 10:44" ∷
    codes "5 2 0 c call 22:40" ∷
    codes "5 1 0 #1 p ! item(2) -> l" ∷
    codes "5 time 1" ∷
    codes "6 1 0 l expire 17:13" ∷
    codes "6 1 0 l test 18:1" ∷
    codes "6 1 0 #2 l ! item(2) -> c" ∷
    codes "6 2 0 l call 18:54" ∷
    codes "6 1 0 #3 c ! ok(2) -> p" ∷
    codes "6 2 0 p eval 11:45" ∷
    codes "6 2 0 p test 10:25" ∷
    codes "6 1 0 c call 22:40" ∷
    codes "6 deadlock" ∷ [])
unfolding digits
lost = refl
