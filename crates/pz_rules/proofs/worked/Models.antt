-- Short forms for worked models: the parts of their text, and where they stand.
use Rattle.std.specs.Prelude.{ℕ, pos, Bool, List, [], ◌∷◌, Option, Some, None}
use Rattle.pz_bind_rules.specs.pz_syntax.declared.tokens.Pos.{Pos}
use Rattle.pz_bind_rules.specs.pz_syntax.declared.names.Id.{Id}
use Rattle.pz_bind_rules.specs.pz_syntax.declared.classes.VarGroup.{VarGroup}
use Rattle.pz_bind_rules.specs.pz_syntax.declared.classes.Message.{Message}
use Rattle.pz_bind_rules.specs.pz_syntax.declared.clusters.Instance.{Instance}
use Rattle.pz_bind_rules.specs.pz_syntax.declared.clusters.Channel.{Channel}
use Rattle.pz_bind_rules.specs.pz_syntax.declared.clusters.ChannelEnd.{ChannelEnd}
use Rattle.pz_bind_rules.specs.pz_syntax.declared.clusters.Given.{Given}
use Rattle.pz_bind_rules.specs.pz_syntax.declared.clusters.Arg.TheVariants.{Plain}
use Rattle.pz_bind_rules.specs.pz_syntax.declared.exprs.Literal.TheVariants as literal
use Rattle.pz_bind_rules.specs.pz_syntax.Expressions.{Expression, Expressions, none, more}
use Rattle.pz_bind_rules.specs.pz_syntax.Expressions as expression
use Rattle.pz_bind_rules.specs.pz_syntax.Statements.{Statement, Statements, no_statements, then, Branches, no_branches, branch}
use Rattle.pz_bind_rules.specs.pz_syntax.Classes.{StartTree, ProcessMethodTree, DeclTree, system, ModelTree}
use Rattle.pz_bind_rules.specs.pz_value.declared.value.ClassId.{ClassId}
use Rattle.pz_bind_rules.specs.pz_value.declared.value.Value.{Value}
use Rattle.pz_bind_rules.specs.pz_value.declared.value.Value.TheVariants as value
use Rattle.pz_offer.specs.pz_state.Objects.{ObjectView}
use Rattle.pz_prims.specs.Rows.{answered}
use Rattle.pz_prims.specs.EveryValue.{every_value}
use Rattle.pz_prims.specs.Integers.{integers}
use Rattle.pz_prims.specs.Booleans.{booleans}
use Rattle.pz_prims.specs.Table.{outcome}
use Rattle.pz_offer.specs.pz_copy.Parcels.{ParcelView}
use Rattle.pz_eval_rules.specs.devices.Computed.{sequence, arguments, operators, replied, selectors, going, turns, step, evaluated}
use Rattle.pz_offer.specs.declared.end.End.{End}
use Rattle.pz_offer.specs.PlaceOrder.{Place}
use Rattle.pz_rules.specs.declared.action.Kind.{Kind}
use Rattle.pz_rules.specs.declared.action.Action.{Action}
use Rattle.pz_rules.specs.declared.action.Action.TheVariants.{Internal}
use Rattle.pz_rules.specs.Terms.{Term, frame, Terms, no_terms, and}
use Rattle.pz_rules.specs.declared.limits.Edition.{Edition}
use Rattle.pz_rules.specs.declared.limits.Edition.TheVariants.{One}
use Rattle.pz_rules.specs.Settings.{Setting, Process}
use Rattle.pz_rules.specs.Configurations.{Config}

-- Text

abbrev pub at : ℕ → ℕ → Pos
at line column = record { line = line; column = column }

abbrev pub id : List ℕ → ℕ → ℕ → Id
id name line column = record { name = name; pos = at line column }

module _ {X K : Type 0} where
  abbrev pub integer : Pos → ℕ → Expression X K
  integer at n = expression.literal at (literal.Int (pos n))

  abbrev pub expressions : List (Expression X K) → Expressions X K
  expressions [] = none
  expressions (e ∷ es) = more e (expressions es)

module _ {X K Q : Type 0} where
  abbrev pub steps : List (Statement X K Q) → Statements X K Q
  steps [] = no_statements
  steps (s ∷ ss) = (then) s (steps ss)

  abbrev pub branches : List (Statements X K Q) → Branches X K Q
  branches [] = no_branches
  branches (ss ∷ bs) = branch ss (branches bs)

abbrev pub group_of : List Id → Id → VarGroup
group_of names kind = record { names = names; kind = kind }

abbrev pub message_of : Id → Bool → Id → Option (List Id) → Message
message_of port out name types = record { port = port; out = out; name = name; types = types }

abbrev pub begins_by : Id → Option StartTree
begins_by method = Some (record { method = method; args = none })

abbrev pub method_of : Id → Statements Id Id Id → ProcessMethodTree
method_of name body = record { name = name; inputs = []; outputs = []; locals = None; body = body }

abbrev pub instance_of : Id → Id → Option (List Given) → Instance
instance_of name class given = record { name = name; class = class; given = given }

abbrev pub gives : Id → ℕ → Pos → Given
gives name n at = record { name = name; arg = Plain (literal.Int (pos n)) at }

abbrev pub channel_of : Pos → List ChannelEnd → Channel
channel_of at ends = record { pos = at; ends = ends }

abbrev pub system_of : Pos → List Instance → Option (List Channel) → DeclTree
system_of at instances channels = system (record { pos = at; instances = Some instances; channels = channels })

abbrev pub class : ℕ → ClassId
class n = record { 0 = n }

-- What evaluation computes with: a proof that names this opens all of it.
unfoldable pub evaluations : ℕ
unfolding evaluated step sequence arguments operators replied selectors going turns outcome answered every_value integers booleans
evaluations = 0

-- Where it stands

abbrev pub in_edition : Edition → ModelTree → Setting
in_edition edition m = record { model = m; limits = record { units = 1000; depth = 20; height = 100; edition = edition } }

abbrev pub of_model : ModelTree → Setting
of_model = in_edition One

abbrev pub at_clock : ℕ → List Process → Config
at_clock clock processes = record { clock = clock; processes = processes }

-- a process before the call of its first method
abbrev pub before : Term → List Value → Process
before t vars = record { term = t; state = record { vars = vars; frames = []; objects = [] } }

-- in its first method, which is a frame without locals
abbrev pub within : Term → List Value → Process
within t vars = record { term = frame 1 0 [] t; state = record { vars = vars; frames = (1, []) ∷ []; objects = [] } }

abbrev pub terms : List Term → Terms
terms [] = no_terms
terms (t ∷ ts) = and t (terms ts)

abbrev pub number : ℕ → Value
number n = value.Int (pos n)

abbrev pub object_of : ℕ → List Value → ObjectView
object_of c items = record { class = class c; items = items }

abbrev pub end : ℕ → Place → End
end i place = record { process = i; place = place }

abbrev pub nothing : ParcelView
nothing = record { values = []; objects = [] }

abbrev pub internal : ℕ → Place → Kind → Pos → Action
internal i place kind at = Internal (end i place) kind at
