-- The instances of a sound model.
use Rattle.std.proofs.Common.{◌≡◌, refl, sym, ap, ◌∙◌, ℕ, Bool, true, false, ◌&&◌, nat_eq, IsTrue, List, [], ◌++◌, Option, Some, None, ◌⊎◌, inl, inr}
use Rattle.std.specs.List.{Contains, list_all, list_any, count_by}
use Rattle.std.specs.Option.{unwrap_or}
use Rattle.std.specs.Str.{bytes_eq}
use Rattle.std.proofs.lemmas.Bool.{eqb-true}
use Rattle.std.proofs.lemmas.List.Elements.{Contains-append_right}
use Rattle.pz_classes_code.specs.pz_syntax.declared.clusters.Instance.{Instance}
use Rattle.pz_classes_code.specs.pz_syntax.Classes.{DeclTree, data_class, process_class, cluster_class, system, ModelTree}
use Rattle.pz_check_violations.specs.Order.{violation}
use Rattle.pz_classes_mentions.specs.declared.mention.Mention.TheVariants.{Declared, Instantiated}
use Rattle.pz_classes_mentions.specs.declared.local_scope.LocalScope.{LocalScope}
use Rattle.pz_classes_mentions.specs.Declarations.{parts, cluster_part, system_part, section_types, mentioned_instance, mentioned_givens, mentioned_instances}
use Rattle.pz_classes_code.specs.ReservedNames.{is_unsupported}
use Rattle.pz_classes_rules.specs.Numbers.{declaration, class}
use Rattle.pz_classes_rules.specs.Members.{spelled}
use Rattle.pz_classes_rules.specs.NameRules.{has_instances}
use Rattle.pz_classes_rules.specs.Words.{Mentions}
use Rattle.pz_classes_rules.specs.WordRules.{c13, c18}
use Rattle.pz_classes_rules.specs.Instances.{instances, instance_class, parameters}
use Rattle.pz_classes_rules.specs.InstanceRules.{given_names, gives_each, ill_given, Holds, directly, through, holds_itself}
use Rattle.pz_classes_rules.specs.Soundness.{IsSound, a_word, given, holding}
use Rattle.pz_classes_rules.specs.SoundSystem.{InstanceFits}
use Rattle.pz_classes_rules.specs.Kinds.{is_cluster}
use Rattle.pz_classes_rules.proofs.Elements.{both_true, none_in, first_in, later_in, in_flat, each_passes, name_in}

-- the part that mentions an instance's class
record Instantiates (d : DeclTree) (i : Instance) : Type 0 where
  part : LocalScope
  part_of : Contains (parts d) part
  mentioned : Contains part.mentions (Instantiated i.class)

mentions_class : (is : List Instance) (i : Instance) → Contains is i → Contains (mentioned_instances is) (Instantiated i.class)
mentions_class is i here = in_flat mentioned_instance is i (Instantiated i.class) here (first_in (Instantiated i.class) (mentioned_givens (unwrap_or i.given [])))

instantiates : (d : DeclTree) (i : Instance) → Contains (instances d) i → Instantiates d i
instantiates (data_class c) i here = absurd (none_in i here)
instantiates (process_class c) i here = absurd (none_in i here)
instantiates (cluster_class c) i here = record {
  part = cluster_part c;
  part_of = first_in (cluster_part c) [];
  mentioned = later_in (Declared c.name) (section_types c.parameters ++ mentioned_instances (unwrap_or c.instances [])) (Instantiated i.class)
      (Contains-append_right (section_types c.parameters) (mentioned_instances (unwrap_or c.instances [])) (Instantiated i.class) (mentions_class (unwrap_or c.instances []) i here));
}
instantiates (system s) i here = record { part = system_part s; part_of = first_in (system_part s) []; mentioned = mentions_class (unwrap_or s.instances []) i here }

not_false : (b : Bool) → (b ≡ false → ⊥) → b ≡ true
not_false true never = refl
not_false false never = absurd (never refl)

not_true : (b : Bool) → (b ≡ true → ⊥) → b ≡ false
not_true true never = absurd (never refl)
not_true false never = refl

-- what has instances has a number
numbered : (m : ModelTree) (name : List ℕ) → has_instances m name ≡ true → (k : ℕ) × (class m name ≡ Some k)
numbered m name has = by_class (class m name) refl
  where
    nowhere : (b : Bool) → b && false ≡ true → ⊥
    nowhere true wrong = cc
    nowhere false wrong = cc

    by_class : (o : Option ℕ) → class m name ≡ o → (k : ℕ) × (class m name ≡ Some k)
    by_class None is = absurd (nowhere _ (rw is at has))
    by_class (Some k) is = (k, is)

module _ (m : ModelTree) (sound : IsSound m) (c : ℕ) (d : DeclTree) (declared : declaration m c ≡ Some d) where
  module _ (i : Instance) (here : Contains (instances d) i) where
    mentions : (n : Instantiates d i) → Mentions m c d n.part (Instantiated i.class)
    mentions n = record { declared = declared; part_of = n.part_of; mentioned = n.mentioned }

    supported : is_unsupported i.class.name ≡ false
    supported =
        let n = instantiates d i here in
        not_true (is_unsupported i.class.name) (λ is. sound.rules (violation 18 i.class.pos) (a_word (violation 18 i.class.pos) (c18 c d n.part (Instantiated i.class) (mentions n) is)))

    instantiable : has_instances m i.class.name ≡ true
    instantiable =
        let n = instantiates d i here in
        not_false (has_instances m i.class.name)
        (λ is. sound.rules (violation 13 i.class.pos) (a_word (violation 13 i.class.pos) (c13 c d n.part (Instantiated i.class) (mentions n) (rw (supported, is) refl))))

    pub has_class : (k : ℕ) × (instance_class m i.class.name ≡ Some k)
    has_class = let k = numbered m i.class.name instantiable in (k.0, rw (supported, instantiable) k.1)

    gives : (k : ℕ) → instance_class m i.class.name ≡ Some k → IsTrue (gives_each (given_names i) (spelled (parameters m k)))
    gives k is = not_false (gives_each (given_names i) (spelled (parameters m k)))
        (λ wrong. sound.rules (violation 14 i.name.pos) (given (violation 14 i.name.pos) (ill_given c k d i declared here is wrong)))

    pub instance_fits : InstanceFits m i
    instance_fits =
        let k = has_class in
        let wanted = spelled (parameters m k.0) in
        let each = both_true (list_all (λ x. nat_eq (count_by (bytes_eq x) (given_names i)) 1) wanted) (list_all (λ x. list_any (bytes_eq x) wanted) (given_names i)) (gives k.0 k.1) in
        record {
          class = k.0;
          is_class = k.1;
          once = λ name among. eqb-true (count_by (bytes_eq name) (given_names i)) 1 (each_passes (λ x. nat_eq (count_by (bytes_eq x) (given_names i)) 1) wanted name each.0 among);
          only = λ name among. name_in name wanted (each_passes (λ x. list_any (bytes_eq x) wanted) (given_names i) name each.1 among);
        }

-- ---- what holds what

-- the instance by which a class holds another
record HoldsFirst (m : ModelTree) (c x : ℕ) : Type 0 where
  number : ℕ
  decl : DeclTree
  instance : Instance
  declared : declaration m c ≡ Some decl
  instance_in : Contains (instances decl) instance
  is_class : instance_class m instance.class.name ≡ Some number
  leads : (number ≡ x) ⊎ Holds m number x

holds_first : (m : ModelTree) (c x : ℕ) → Holds m c x → HoldsFirst m c x
holds_first m _ _ (directly c k d i declared here is) = record { number = k; decl = d; instance = i; declared = declared; instance_in = here; is_class = is; leads = inl refl }
holds_first m _ _ (through c b k first rest) = on (holds_first m c b first)
  where
    on : HoldsFirst m c b → HoldsFirst m c k
    on f = record { number = f.number; decl = f.decl; instance = f.instance; declared = f.declared; instance_in = f.instance_in; is_class = f.is_class; leads = by_lead f.number f.leads }
      where
        by_lead : (n : ℕ) → (n ≡ b) ⊎ Holds m n b → (n ≡ k) ⊎ Holds m n k
        by_lead n (inl is) = inr (rw is rest)
        by_lead n (inr more) = inr (through n b k more rest)

pub unheld : (m : ModelTree) → IsSound m → (c : ℕ) (d : DeclTree) → declaration m c ≡ Some d → IsTrue (is_cluster d) → Holds m c c → ⊥
unheld m sound c d declared cluster holds =
    let f = holds_first m c c holds in
    let some : Some f.decl ≡ Some d = sym f.declared ∙ declared in
    let same : f.decl ≡ d = cc in
    let is : IsTrue (is_cluster f.decl) = ap is_cluster same ∙ cluster in
    sound.rules (violation 15 f.instance.class.pos) (holding (violation 15 f.instance.class.pos) (holds_itself c f.number f.decl f.instance f.declared is f.instance_in f.is_class f.leads))
