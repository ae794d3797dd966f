-- The tree of a ring, each part at the place that is given for its token.
use Rattle.std.specs.Prelude.{ℕ, ◌+◌, List, [], ◌∷◌, ◌++◌, length, map, Bool, true, false, ◌==◌, Option, Some, None, if◌then◌else◌, codes, pos}
use Rattle.pz_classes_rules.specs.pz_syntax.declared.tokens.Pos.{Pos}
use Rattle.pz_classes_rules.specs.pz_syntax.declared.tokens.Symbol.TheVariants as s
use Rattle.pz_classes_rules.specs.pz_syntax.declared.names.Id.{Id}
use Rattle.pz_classes_rules.specs.pz_syntax.declared.exprs.Literal.{Literal}
use Rattle.pz_classes_rules.specs.pz_syntax.declared.exprs.Literal.TheVariants as lit
use Rattle.pz_classes_rules.specs.pz_syntax.declared.classes.VarGroup.{VarGroup}
use Rattle.pz_classes_rules.specs.pz_syntax.declared.classes.Message.{Message}
use Rattle.pz_classes_rules.specs.pz_syntax.declared.clusters.Arg.TheVariants.{Plain}
use Rattle.pz_classes_rules.specs.pz_syntax.declared.clusters.Instance.{Instance}
use Rattle.pz_classes_rules.specs.pz_syntax.declared.clusters.ChannelEnd.{ChannelEnd}
use Rattle.pz_classes_rules.specs.pz_syntax.declared.clusters.ChannelEnd.TheVariants.{Inner}
use Rattle.pz_classes_rules.specs.pz_syntax.declared.clusters.Channel.{Channel}
use Rattle.pz_classes_rules.specs.pz_syntax.declared.clusters.SystemDecl.{SystemDecl}
use Rattle.pz_classes_rules.specs.pz_syntax.ExpressionErasure.{origin}
use Rattle.pz_classes_rules.specs.pz_syntax.Expressions.{Expression, Part, literal, variable, chain, none, more, left_out, written, no_links, link}
use Rattle.pz_classes_rules.specs.pz_syntax.Statements.{Statement, Statements, delay, bracketed, conditional, interrupt, send, receive, call, no_statements, then, not_written}
use Rattle.pz_classes_rules.specs.pz_syntax.Classes.{ProcessMethodTree, ProcessClassTree, process_class, system, ModelTree}
use Rattle.pz_classes_rules.specs.pz_syntax.ModelText.{decl_text}
use Rattle.pz_parser_declarations.specs.ClusterPlaces.{place_system}
use Rattle.pz_parser.specs.ProcessPlaces.{place_process_class}
use Rattle.pz_gen.specs.Ring as ring
use Rattle.pz_gen_laws.specs.devices.RingBits.{stations}

abbrev pub named : List ℕ → Id
named x = record { name = x; pos = origin }

abbrev pub group : List ℕ → List ℕ → List VarGroup
group x kind = record { names = named x ∷ []; kind = named kind } ∷ []

abbrev pub integer : ℕ → Expression Id Id
integer n = literal origin (lit.Int (pos n))

abbrev pub reads : List ℕ → Expression Id Id
reads x = variable origin (named x)

abbrev pub sends : List ℕ → List ℕ → Part Id Id → Statement Id Id Id
sends port message args = send origin (named port) (named message) args left_out

abbrev pub receives : List ℕ → List ℕ → Option (List Id) → Statement Id Id Id
receives port message into = receive origin (named port) (named message) into None left_out

abbrev pub calls : List ℕ → Statement Id Id Id
calls method = call origin (named method) none []

abbrev pub delays : ℕ → Statement Id Id Id
delays n = delay origin (integer n)

abbrev pub one : Expression Id Id → Part Id Id
one e = written (more e none)

-- t + 1
abbrev pub next_token : Expression Id Id
next_token = chain origin (reads (codes "t")) (link s.Plus origin (integer 1) no_links)

abbrev pub method_of : List ℕ → Statements Id Id Id → ProcessMethodTree
method_of x body = record { name = named x; inputs = []; outputs = []; locals = None; body = body }

abbrev pub message : List ℕ → Bool → List ℕ → Option (List Id) → Message
message port out x types = record { port = named port; out = out; name = named x; types = types }

abbrev pub integers : Option (List Id)
integers = Some (named (codes "Integer") ∷ [])

-- a station halts for three units of time
abbrev pub halts : Statements Id Id Id
halts = (then) (receives (codes "sup") (codes "halt") None) ((then) (delays 3) no_statements)

abbrev pub start_body : Statements Id Id Id
start_body =
    (then) (conditional origin (reads (codes "first")) ((then) (sends (codes "right") (codes "token") (one (integer 0))) no_statements) not_written)
    ((then) (interrupt origin ((then) (calls (codes "loop")) no_statements) (bracketed origin halts)) no_statements)

abbrev pub loop_body : Statements Id Id Id
loop_body =
    (then) (receives (codes "left") (codes "token") (Some (named (codes "t") ∷ [])))
    ((then) (delays 1)
    ((then) (sends (codes "right") (codes "token") (one next_token))
    ((then) (calls (codes "loop")) no_statements)))

abbrev pub station_class : ProcessClassTree
station_class = record {
  name = named (codes "Station");
  parameters = Some (group (codes "first") (codes "Boolean"));
  parent = None;
  ports = Some (named (codes "left") ∷ named (codes "right") ∷ named (codes "sup") ∷ []);
  messages = Some (message (codes "left") false (codes "token") integers ∷ message (codes "right") true (codes "token") integers ∷ message (codes "sup") false (codes "halt") None ∷ []);
  variables = Some (group (codes "t") (codes "Integer"));
  start = Some (record { method = named (codes "start"); args = none });
  methods = Some (method_of (codes "start") start_body ∷ method_of (codes "loop") loop_body ∷ []);
}

abbrev pub halting_body : Statements Id Id Id
halting_body = (then) (delays 10) ((then) (sends (codes "sup") (codes "halt") left_out) ((then) (calls (codes "loop")) no_statements))

abbrev pub supervisor_class : ProcessClassTree
supervisor_class = record {
  name = named (codes "Supervisor");
  parameters = None;
  parent = None;
  ports = Some (named (codes "sup") ∷ []);
  messages = Some (message (codes "sup") true (codes "halt") None ∷ []);
  variables = None;
  start = Some (record { method = named (codes "loop"); args = none });
  methods = Some (method_of (codes "loop") halting_body ∷ []);
}

abbrev pub truth : Bool → Literal
truth first = if first then lit.True else lit.False

-- a station, and whether it is the first
abbrev pub station_of : ℕ → Bool → Instance
station_of i first = record {
  name = named (ring.name i);
  class = named (codes "Station");
  given = Some (record { name = named (codes "first"); arg = Plain (truth first) origin } ∷ []);
}

abbrev pub station : ℕ → Instance
station i = station_of i (i == 0)

abbrev pub supervisor : Instance
supervisor = record { name = named (codes "v"); class = named (codes "Supervisor"); given = None }

abbrev pub end : List ℕ → List ℕ → ChannelEnd
end part port = Inner (named part) (named port)

-- the channel from station i to station j
abbrev pub channel_to : ℕ → ℕ → Channel
channel_to i j = record { pos = origin; ends = end (ring.name i) (codes "right") ∷ end (ring.name j) (codes "left") ∷ [] }

abbrev pub channel : ℕ → ℕ → Channel
channel n i = channel_to i (ring.next n i)

abbrev pub halted_end : ℕ → ChannelEnd
halted_end i = end (ring.name i) (codes "sup")

abbrev pub halting : List ℕ → Channel
halting is = record { pos = origin; ends = end (codes "v") (codes "sup") ∷ map halted_end is }

abbrev pub all_instances : List ℕ → List Instance
all_instances is = map station is ++ supervisor ∷ []

abbrev pub all_channels : ℕ → List ℕ → List Channel
all_channels n is = map (channel n) is ++ halting is ∷ []

abbrev pub ring_system : ℕ → SystemDecl
ring_system n = record {
  pos = origin;
  instances = Some (all_instances (stations n));
  channels = Some (all_channels n (stations n));
}

-- the two classes at their places
abbrev pub station_at : (ℕ → Pos) → ProcessClassTree
station_at at = place_process_class at 0 station_class

abbrev pub supervisor_at : (ℕ → Pos) → ProcessClassTree
supervisor_at at = place_process_class at (length (decl_text (process_class station_class))) supervisor_class

-- the number of the first token of the system
abbrev pub system_at : ℕ
system_at = length (decl_text (process_class station_class)) + length (decl_text (process_class supervisor_class))

-- both classes and this system
abbrev pub with_system : (ℕ → Pos) → SystemDecl → ModelTree
with_system at s = record { decls = process_class (station_at at) ∷ process_class (supervisor_at at) ∷ system s ∷ [] }

abbrev pub tree : (ℕ → Pos) → ℕ → ModelTree
tree at n = with_system at (place_system at system_at (ring_system n))
