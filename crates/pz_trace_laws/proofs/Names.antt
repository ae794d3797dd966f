-- A model that was read has no LF in the names of its instances, classes and messages.
use Rattle.std.proofs.Common.{ℕ, zero, suc, List, [], ◌∷◌, Option, Some, None, refl, subst}
use Rattle.std.specs.Prelude.{slice_get}
use Rattle.std.specs.Option.{unwrap_or, option_map_or}
use Rattle.pz_trace.specs.pz_syntax.declared.clusters.Instance.{Instance}
use Rattle.pz_trace.specs.pz_syntax.Classes.{DeclTree, ModelTree}
use Rattle.pz_trace.specs.pz_syntax.ModelForm.{Each, IfWritten}
use Rattle.pz_trace.specs.pz_syntax.ModelText.{decl_text, text}
use Rattle.pz_trace.specs.pz_value.declared.value.ClassId.{ClassId}
use Rattle.pz_trace.specs.pz_classes_rules.Numbers.{declaration, spelling}
use Rattle.pz_trace.specs.pz_classes_rules.Instances.{instances}
use Rattle.pz_trace.specs.pz_classes_rules.ClassNames.{class_names}
use Rattle.pz_bind_levels.specs.Places.{Address}
use Rattle.pz_trace.specs.pz_bind_rules.Nest.{instances_in, class_at}
use Rattle.pz_trace.specs.pz_bind_rules.Names.{name_at}
use Rattle.pz_trace.specs.pz_copy.ParcelText.{name_of}
use Rattle.pz_trace.specs.Laws.{Unbroken, HasUnbrokenNames}
use Rattle.pz_run_reading.specs.Models.{IsModelOf}
use Rattle.pz_trace_laws.specs.Messages.{DeclUnbroken, HasUnbrokenMessages}
use Rattle.pz_trace_laws.proofs.Lists.{each_at, in_map}
use Rattle.pz_trace_laws.proofs.Spelled.{tokens_unbroken}
use Rattle.pz_trace_laws.proofs.Texts.{Whole, in_each, decl_said, class_named, InstanceUnbroken, instances_named}

abbrev DeclWhole : DeclTree → Type 0
DeclWhole d = Whole (decl_text d)

decls_whole : (words : List ℕ) (m : ModelTree) → IsModelOf words m → Each DeclWhole m.decls
decls_whole words m is =
    let whole : Whole (text m) = subst Whole is.is_tree.is_text.2 (tokens_unbroken words is.tokens is.are_tokens) in
    in_each decl_text DeclWhole (λ d h. h) m.decls whole

each_said : (ds : List DeclTree) → Each DeclWhole ds → Each DeclUnbroken ds
each_said [] h = tt
each_said (d ∷ ds) h = (decl_said d h.0, each_said ds h.1)

pub messages_unbroken : (words : List ℕ) (m : ModelTree) → IsModelOf words m → HasUnbrokenMessages m
messages_unbroken words m is = each_said m.decls (decls_whole words m is)

each_named : (ds : List DeclTree) → Each DeclWhole ds → Each (λ d. Unbroken (spelling d)) ds
each_named [] h = tt
each_named (d ∷ ds) h = (class_named d h.0, each_named ds h.1)

-- what is there or empty
unwrapped : (o : Option (List ℕ)) → IfWritten Unbroken o → Unbroken (unwrap_or o [])
unwrapped None h = refl
unwrapped (Some x) h = h

instance_unwrapped : (o : Option Instance) → IfWritten InstanceUnbroken o → Unbroken (option_map_or (λ x. x.name.name) o [])
instance_unwrapped None h = refl
instance_unwrapped (Some x) h = h

module _ (m : ModelTree) (whole : Each DeclWhole m.decls) where
  declared : (c : ℕ) → IfWritten DeclWhole (declaration m c)
  declared zero = tt
  declared (suc i) = each_at DeclWhole m.decls i whole

  instances_of : (o : Option DeclTree) → IfWritten DeclWhole o → Each InstanceUnbroken (option_map_or instances o [])
  instances_of None h = tt
  instances_of (Some d) h = instances_named d h

  instance_unbroken : (up : Address) (i : ℕ) → Unbroken (name_at m up i)
  instance_unbroken up i =
      let c = class_at m up in
      instance_unwrapped (slice_get (instances_in m c) i) (each_at InstanceUnbroken (instances_in m c) i (instances_of (declaration m c) (declared c)))

  names_all : Each Unbroken (class_names m)
  names_all = (refl, in_map Unbroken spelling m.decls (each_named m.decls whole))

  class_unbroken : (class : ClassId) → Unbroken (name_of (class_names m) class)
  class_unbroken class = unwrapped (slice_get (class_names m) class.0) (each_at Unbroken (class_names m) class.0 names_all)

pub names_unbroken : (words : List ℕ) (m : ModelTree) → IsModelOf words m → HasUnbrokenNames m
names_unbroken words m is =
    let whole = decls_whole words m is in
    record { instances = instance_unbroken m whole; classes = class_unbroken m whole }
