-- The points of worked runs, and the lines of a trace with those of watches that are broken behind them.
use Rattle.std.proofs.Common.{◌≡◌, refl, ℕ, List, [], ◌∷◌, ◌++◌, length, Some, None, codes}
use Rattle.std.specs.Fmt.{digits}
use Rattle.pz_bind.specs.pz_syntax.declared.tokens.Pos.{Pos}
use Rattle.pz_bind.specs.pz_syntax.declared.names.Id.{Id}
use Rattle.pz_bind.specs.pz_syntax.declared.clusters.Instance.{Instance}
use Rattle.pz_bind.specs.pz_syntax.declared.clusters.Channel.{Channel}
use Rattle.pz_bind.specs.pz_syntax.declared.clusters.ChannelEnd.{ChannelEnd}
use Rattle.pz_bind.specs.pz_syntax.declared.clusters.ChannelEnd.TheVariants.{Inner}
use Rattle.pz_bind.specs.pz_syntax.Classes.{DeclTree, process_class, cluster_class, system, ModelTree}
use Rattle.pz_trace.specs.pz_copy.Parcels.{ParcelView}
use Rattle.pz_trace.specs.pz_offer.declared.end.End.{End}
use Rattle.pz_trace.specs.pz_rules.declared.action.Kind.TheVariants.{Skip, Eval, Test, Expire, Call}
use Rattle.pz_trace.specs.pz_rules.declared.action.Action.TheVariants.{Internal, Comm}
use Rattle.pz_trace.specs.pz_rules.Runs.{Event, acted, passed}
use Rattle.pz_trace.specs.declared.forms.Form.TheVariants.{Three}
use Rattle.pz_trace.specs.declared.ending.Ending.TheVariants as ending
use Rattle.pz_trace.specs.Lines.{header, end_line}
use Rattle.pz_trace.specs.TraceText.{event_line}
use Rattle.pz_watch.specs.declared.atoms.Atom.TheVariants.{Message, Pass}
use Rattle.pz_watch.specs.Points.{passing, internal, communication}
use Rattle.pz_watch.specs.Formulas.{Formula, line, negation, both, once}
use Rattle.pz_watch.specs.Files.{NamedFormula, watches_text}
use Rattle.pz_watch.specs.Breaking.{broken_at, broken_lines}
use Rattle.pz_watch_points.specs.EventPoints.{points_of}

-- worked models, as far as points speak of them

abbrev at : ℕ → ℕ → Pos
at row column = record { line = row; column = column }

abbrev id : List ℕ → Id
id name = record { name = name; pos = at 1 1 }

abbrev instance : List ℕ → List ℕ → Instance
instance name class = record { name = id name; class = id class; given = None }

abbrev joins : ChannelEnd → ChannelEnd → Channel
joins one other = record { pos = at 1 1; ends = one ∷ other ∷ [] }

abbrev inner : List ℕ → List ℕ → ChannelEnd
inner i p = Inner (id i) (id p)

abbrev process : List ℕ → List ℕ → DeclTree
process name port = process_class (record { name = id name; parameters = None; parent = None; ports = Some (id port ∷ []); messages = None; variables = None; start = None; methods = None })

abbrev process_at : ℕ → End
process_at i = record { process = i; place = [] }

abbrev nothing : ParcelView
nothing = record { values = []; objects = [] }

-- system instances s : S r : R channels {s.o, r.i}
abbrev sending : ModelTree
sending = record {
  decls =
      process (codes "S") (codes "o") ∷ process (codes "R") (codes "i") ∷
      system (record {
        pos = at 1 1;
        instances = Some (instance (codes "s") (codes "S") ∷ instance (codes "r") (codes "R") ∷ []);
        channels = Some (joins (inner (codes "s") (codes "o")) (inner (codes "r") (codes "i")) ∷ []);
      }) ∷ [];
}

-- time passes, the delay of s is over, and it sends m
abbrev delayed : List Event
delayed =
    passed 0 3 ∷
    acted 3 1 0 (Internal (process_at 0) Expire (at 5 15)) ∷
    acted 3 1 0 (Comm 0 (process_at 0) (process_at 1) (codes "m") nothing) ∷
    []

-- a time line is at the clock before time passes
delayed_points : points_of sending delayed ≡
    record { clock = 0; event = passing } ∷
    record { clock = 3; event = internal (codes "s") (codes "expire") } ∷
    record { clock = 3; event = communication (codes "m") (codes "s") (codes "r") } ∷
    []
delayed_points = refl

abbrev m : Formula
m = line (Message (codes "m"))

abbrev watches : List NamedFormula
watches =
    record { name = codes "a"; formula = once None m } ∷
    record { name = codes "b"; formula = negation (both m (negation (once (Some 2) (line Pass)))) } ∷
    []

in_a_file : watches_text watches ≡ codes "a : once * message m\nb : not and message m not once 2 pass\n"
unfolding digits
in_a_file = refl

-- each event with its line, and behind it the watches that are broken at its point
abbrev told : ModelTree → List NamedFormula → List Event → List Event → List ℕ
told model ws before [] = []
told model ws before (e ∷ es) =
    event_line model e ++ (broken_lines (broken_at ws (points_of model (before ++ e ∷ [])) (length before)) ++ told model ws (before ++ e ∷ []) es)

judged : header (Three 100000) ++ (told sending watches [] delayed ++ end_line sending 3 ending.End)
    ≡ codes "poosl-trace 3 100000\n0 time 3\nbroken a\n3 1 0 s expire 5:15\nbroken a\n3 1 0 #1 s ! m() -> r\nbroken b\n3 end\n"
unfolding digits
judged = refl

-- cluster class C instances s : S r : R channels {s.o, r.i}
-- system instances c : C d : C
abbrev nested : ModelTree
nested = record {
  decls =
      process (codes "S") (codes "o") ∷ process (codes "R") (codes "i") ∷
      cluster_class (record {
        name = id (codes "C");
        parameters = None;
        ports = None;
        instances = Some (instance (codes "s") (codes "S") ∷ instance (codes "r") (codes "R") ∷ []);
        channels = Some (joins (inner (codes "s") (codes "o")) (inner (codes "r") (codes "i")) ∷ []);
      }) ∷
      system (record { pos = at 1 1; instances = Some (instance (codes "c") (codes "C") ∷ instance (codes "d") (codes "C") ∷ []); channels = None }) ∷ [];
}

-- a kind of each, in the process of this number
abbrev kinds : ℕ → List Event
kinds i =
    acted 7 9 0 (Internal (process_at i) Skip (at 1 1)) ∷
    acted 7 9 1 (Internal (process_at i) Eval (at 1 1)) ∷
    acted 7 9 2 (Internal (process_at i) Test (at 1 1)) ∷
    acted 7 9 3 (Internal (process_at i) Expire (at 1 1)) ∷
    acted 7 9 4 (Internal (process_at i) Call (at 1 1)) ∷
    []

-- paths are those from the system down
nested_points : points_of nested (kinds 3) ≡
    record { clock = 7; event = internal (codes "d.r") (codes "skip") } ∷
    record { clock = 7; event = internal (codes "d.r") (codes "eval") } ∷
    record { clock = 7; event = internal (codes "d.r") (codes "test") } ∷
    record { clock = 7; event = internal (codes "d.r") (codes "expire") } ∷
    record { clock = 7; event = internal (codes "d.r") (codes "call") } ∷
    []
nested_points = refl

nested_message : points_of nested (acted 7 9 5 (Comm 1 (process_at 2) (process_at 3) (codes "m") nothing) ∷ [])
    ≡ record { clock = 7; event = communication (codes "m") (codes "d.s") (codes "d.r") } ∷ []
nested_message = refl
