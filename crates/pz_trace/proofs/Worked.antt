-- Worked models, as far as lines speak of them, and what happens in them.
use Rattle.std.proofs.Common.{ℕ, pos, List, [], ◌∷◌, Some, None, codes}
use Rattle.pz_rules.specs.pz_syntax.declared.tokens.Pos.{Pos}
use Rattle.pz_rules.specs.pz_syntax.declared.names.Id.{Id}
use Rattle.pz_rules.specs.pz_syntax.declared.clusters.Instance.{Instance}
use Rattle.pz_rules.specs.pz_syntax.declared.clusters.Channel.{Channel}
use Rattle.pz_rules.specs.pz_syntax.declared.clusters.ChannelEnd.{ChannelEnd}
use Rattle.pz_rules.specs.pz_syntax.declared.clusters.ChannelEnd.TheVariants.{Inner, Outer}
use Rattle.pz_rules.specs.pz_syntax.Classes.{DeclTree, data_class, process_class, cluster_class, system, ModelTree}
use Rattle.pz_rules.specs.pz_value.declared.value.Value.{Value}
use Rattle.pz_rules.specs.pz_value.declared.value.Value.TheVariants as value
use Rattle.pz_rules.specs.pz_state.Objects.{ObjectView}
use Rattle.pz_rules.specs.pz_copy.Parcels.{ParcelView}
use Rattle.pz_rules.specs.pz_offer.declared.end.End.{End}
use Rattle.pz_rules.specs.declared.action.Kind.{Kind}
use Rattle.pz_rules.specs.declared.action.Action.{Action}
use Rattle.pz_rules.specs.declared.action.Action.TheVariants.{Internal, Comm}
use Rattle.pz_rules.specs.Settings.{Setting}
use Rattle.pz_trace.specs.declared.forms.Form.{Form}
use Rattle.pz_trace.specs.declared.forms.Form.TheVariants.{One}
use Rattle.pz_trace.specs.Forms.{limits_of}

abbrev pub at : ℕ → ℕ → Pos
at line column = record { line = line; column = column }

abbrev pub id : List ℕ → Id
id name = record { name = name; pos = at 1 1 }

abbrev pub instance : List ℕ → List ℕ → Instance
instance name class = record { name = id name; class = id class; given = None }

abbrev pub channel_of : List ChannelEnd → Channel
channel_of ends = record { pos = at 1 1; ends = ends }

abbrev pub inner : List ℕ → List ℕ → ChannelEnd
inner i p = Inner (id i) (id p)

abbrev pub process : List ℕ → List Id → DeclTree
process name ports = process_class (record { name = id name; parameters = None; parent = None; ports = Some ports; messages = None; variables = None; start = None; methods = None })

abbrev pub system_of : List Instance → List Channel → DeclTree
system_of instances channels = system (record { pos = at 1 1; instances = Some instances; channels = Some channels })

-- a model with the limits that a form tells, and with those of the first
abbrev pub told_by : Form → ModelTree → Setting
told_by form m = record { model = m; limits = limits_of form 100000 }

abbrev pub by_first : ModelTree → Setting
by_first m = told_by One m

-- somewhere in the process of this number
abbrev pub in_process : ℕ → End
in_process i = record { process = i; place = [] }

abbrev pub does : ℕ → Kind → ℕ → ℕ → Action
does i kind line column = Internal (in_process i) kind (at line column)

abbrev pub hands : ℕ → ℕ → ℕ → List ℕ → ParcelView → Action
hands wire sender receiver message parcel = Comm wire (in_process sender) (in_process receiver) message parcel

abbrev pub nothing : ParcelView
nothing = record { values = []; objects = [] }

-- data class N, and system instances s : S f : F e : E channels {s.c, f.c} {f.d, e.d}
abbrev pub handing_on : ModelTree
handing_on = record {
  decls =
      data_class (record { name = id (codes "N"); parent = None; variables = None; methods = None }) ∷
      process (codes "S") (id (codes "c") ∷ []) ∷ process (codes "F") (id (codes "c") ∷ id (codes "d") ∷ []) ∷ process (codes "E") (id (codes "d") ∷ []) ∷
      system_of (instance (codes "s") (codes "S") ∷ instance (codes "f") (codes "F") ∷ instance (codes "e") (codes "E") ∷ [])
      (channel_of (inner (codes "s") (codes "c") ∷ inner (codes "f") (codes "c") ∷ []) ∷ channel_of (inner (codes "f") (codes "d") ∷ inner (codes "e") (codes "d") ∷ []) ∷ []) ∷ [];
}

-- two objects that name each other
abbrev pub node : List Value → ObjectView
node items = record { class = record { 0 = 1 }; items = items }

abbrev pub pair : List ObjectView
pair = node (value.Ref 1 ∷ value.Int (pos 1) ∷ []) ∷ node (value.Ref 0 ∷ value.Int (pos 2) ∷ []) ∷ []

abbrev pub first_and : ℕ → ParcelView
first_and second = record { values = value.Ref 0 ∷ value.Ref second ∷ []; objects = pair }

-- cluster class C ports x instances s : S r : R t : S channels {s.o, r.i} {t.o, x}
-- system instances c : C d : C q : R channels {c.x, q.i} {d.x}
abbrev pub nested : ModelTree
nested = record {
  decls =
      process (codes "S") (id (codes "o") ∷ []) ∷ process (codes "R") (id (codes "i") ∷ []) ∷
      cluster_class (record {
        name = id (codes "C");
        parameters = None;
        ports = Some (id (codes "x") ∷ []);
        instances = Some (instance (codes "s") (codes "S") ∷ instance (codes "r") (codes "R") ∷ instance (codes "t") (codes "S") ∷ []);
        channels = Some (channel_of (inner (codes "s") (codes "o") ∷ inner (codes "r") (codes "i") ∷ []) ∷ channel_of (inner (codes "t") (codes "o") ∷ Outer (id (codes "x")) ∷ []) ∷ []);
      }) ∷
      system_of (instance (codes "c") (codes "C") ∷ instance (codes "d") (codes "C") ∷ instance (codes "q") (codes "R") ∷ [])
      (channel_of (inner (codes "c") (codes "x") ∷ inner (codes "q") (codes "i") ∷ []) ∷ channel_of (inner (codes "d") (codes "x") ∷ []) ∷ []) ∷ [];
}
