-- A system of two clusters of one class, computed: in each cluster one channel is joined with one
-- outside, and one is not.
use Rattle.std.proofs.Common.{◌≡◌, refl, ℕ, pos, negsuc, List, [], ◌∷◌, map, Some, None, codes, Option}
use Rattle.std.specs.Fmt.{digits}
use Rattle.pz_classes_rules.specs.pz_syntax.declared.names.Id.{Id}
use Rattle.pz_classes_rules.specs.pz_syntax.declared.clusters.Instance.{Instance}
use Rattle.pz_classes_rules.specs.pz_syntax.declared.clusters.Channel.{Channel}
use Rattle.pz_classes_rules.specs.pz_syntax.declared.clusters.ChannelEnd.{ChannelEnd}
use Rattle.pz_classes_rules.specs.pz_syntax.declared.clusters.ChannelEnd.TheVariants.{Inner, Outer}
use Rattle.pz_classes_rules.specs.pz_syntax.declared.classes.VarGroup.{VarGroup}
use Rattle.pz_classes_rules.specs.pz_syntax.declared.clusters.Given.{Given}
use Rattle.pz_classes_rules.specs.pz_syntax.declared.clusters.Arg.{Arg}
use Rattle.pz_classes_rules.specs.pz_syntax.declared.clusters.Arg.TheVariants.{Plain, Negated, Parameter}
use Rattle.pz_classes_rules.specs.pz_syntax.declared.exprs.Literal.TheVariants as literal
use Rattle.pz_classes_rules.specs.pz_value.declared.value.Value.TheVariants.{Nil, Int}
use Rattle.pz_classes_rules.specs.pz_syntax.Classes.{DeclTree, process_class, cluster_class, system, ModelTree}
use Rattle.pz_bind_levels.specs.Places.{Address}
use Rattle.pz_bind_levels.specs.Wires.{channel}
use Rattle.pz_bind_rules.specs.Nest.{levels, processes}
use Rattle.pz_bind_rules.specs.Names.{path, wire_name}
use Rattle.pz_bind_rules.specs.Values.{values_at}
use Rattle.pz_bind_rules.specs.Connections.{end, is_in, joined, itself, outwards, Connected}
use Rattle.pz_bind_rules.specs.Wires.{wires}

abbrev id : List ℕ → Id
id name = record { name = name; pos = record { line = 1; column = 1 } }

abbrev instance : List ℕ → List ℕ → Instance
instance name class = record { name = id name; class = id class; given = None }

abbrev channel_of : List ChannelEnd → Channel
channel_of ends = record { pos = record { line = 1; column = 1 }; ends = ends }

abbrev inner : List ℕ → List ℕ → ChannelEnd
inner i p = Inner (id i) (id p)

abbrev process : List ℕ → List ℕ → DeclTree
process name port = process_class (record { name = id name; parameters = None; parent = None; ports = Some (id port ∷ []); messages = None; variables = None; start = None; methods = None })

-- cluster class C
-- ports x
-- instances s : S r : R t : S
-- channels {s.o, r.i} {t.o, x}
abbrev cluster : DeclTree
cluster = cluster_class (record {
  name = id (codes "C");
  parameters = None;
  ports = Some (id (codes "x") ∷ []);
  instances = Some (instance (codes "s") (codes "S") ∷ instance (codes "r") (codes "R") ∷ instance (codes "t") (codes "S") ∷ []);
  channels = Some (channel_of (inner (codes "s") (codes "o") ∷ inner (codes "r") (codes "i") ∷ []) ∷ channel_of (inner (codes "t") (codes "o") ∷ Outer (id (codes "x")) ∷ []) ∷ []);
})

-- system
-- instances c : C d : C q : R
-- channels {c.x, q.i} {d.x}
abbrev nested : ModelTree
nested = record {
  decls =
      process (codes "S") (codes "o") ∷ process (codes "R") (codes "i") ∷ cluster ∷
      system (record {
        pos = record { line = 1; column = 1 };
        instances = Some (instance (codes "c") (codes "C") ∷ instance (codes "d") (codes "C") ∷ instance (codes "q") (codes "R") ∷ []);
        channels = Some (channel_of (inner (codes "c") (codes "x") ∷ inner (codes "q") (codes "i") ∷ []) ∷ channel_of (inner (codes "d") (codes "x") ∷ []) ∷ []);
      }) ∷ [];
}

seven_processes : map (path nested) (processes nested) ≡ codes "c.s" ∷ codes "c.r" ∷ codes "c.t" ∷ codes "d.s" ∷ codes "d.r" ∷ codes "d.t" ∷ codes "q" ∷ []
seven_processes = refl

three_levels : map (path nested) (levels nested) ≡ [] ∷ codes "c" ∷ codes "d" ∷ []
three_levels = refl

four_wires : map (wire_name nested) (wires nested) ≡ codes "#1" ∷ codes "#2" ∷ codes "c#1" ∷ codes "d#1" ∷ []
unfolding digits
four_wires = refl

-- c.t and q meet in #1
abbrev c_at : Address
c_at = 0 ∷ []

joined_through : Connected nested (end (2 ∷ c_at) (codes "o")) (end (2 ∷ []) (codes "i"))
joined_through = record {
  met = channel [] 0;
  one = record {
    first = channel c_at 1;
    starts = is_in c_at 2 1 _ _ (codes "o") refl refl refl;
    leads = outwards (channel c_at 1) (channel [] 0) (channel [] 0) (joined c_at 1 _ (codes "x") (channel [] 0) refl refl (is_in [] 0 0 _ _ (codes "x") refl refl refl)) (itself (channel [] 0));
  };
  other = record { first = channel [] 0; starts = is_in [] 2 0 _ _ (codes "i") refl refl refl; leads = itself (channel [] 0) };
}

-- process class P(v, w : Integer) variables z : Integer
-- cluster class D(k : Integer) instances p : P(w := k, v := -7)
-- cluster class C(k : Integer) instances d : D(k := k)
-- system instances c : C(k := 5)
abbrev group : List (List ℕ) → Option (List VarGroup)
group names = Some (record { names = map id names; kind = id (codes "Integer") } ∷ [])

abbrev given_to : List ℕ → List ℕ → List Given → Instance
given_to name class given = record { name = id name; class = id class; given = Some given }

abbrev gives : List ℕ → Arg → Given
gives name arg = record { name = id name; arg = arg }

abbrev holding : List ℕ → Instance → DeclTree
holding name x = cluster_class (record { name = id name; parameters = group (codes "k" ∷ []); ports = None; instances = Some (x ∷ []); channels = None })

abbrev handed_down : ModelTree
handed_down = record {
  decls =
      process_class (record { name = id (codes "P"); parameters = group (codes "v" ∷ codes "w" ∷ []); parent = None; ports = None; messages = None; variables = group (codes "z" ∷ []); start = None; methods = None }) ∷
      holding (codes "D") (given_to (codes "p") (codes "P") (gives (codes "w") (Parameter (id (codes "k"))) ∷ gives (codes "v") (Negated (pos 7) (record { line = 1; column = 1 })) ∷ [])) ∷
      holding (codes "C") (given_to (codes "d") (codes "D") (gives (codes "k") (Parameter (id (codes "k"))) ∷ [])) ∷
      system (record { pos = record { line = 1; column = 1 }; instances = Some (given_to (codes "c") (codes "C") (gives (codes "k") (Plain (literal.Int (pos 5)) (record { line = 1; column = 1 })) ∷ []) ∷ []); channels = None }) ∷ [];
}

one_process : map (path handed_down) (processes handed_down) ≡ codes "c.d.p" ∷ []
one_process = refl

its_values : map (values_at handed_down) (processes handed_down) ≡ (Int (negsuc 6) ∷ Int (pos 5) ∷ Nil ∷ []) ∷ []
its_values = refl
