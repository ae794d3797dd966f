-- What a sound model says of its classes, in positive words.
use Rattle.std.specs.Prelude.{◌≡◌, ℕ, List, ◌++◌, Some, IsSome, Contains, IsTrue}
use Rattle.pz_classes_code.specs.pz_syntax.declared.names.Id.{Id}
use Rattle.pz_classes_code.specs.pz_syntax.Classes.{DeclTree, StartTree, ModelTree}
use Rattle.pz_classes_mentions.specs.declared.mention.Mention.TheVariants.{Called}
use Rattle.pz_classes_mentions.specs.declared.local_scope.LocalScope.{LocalScope}
use Rattle.pz_classes_mentions.specs.Expressions.{count}
use Rattle.pz_classes_rules.specs.Numbers.{declaration}
use Rattle.pz_classes_rules.specs.Ancestors.{ancestors}
use Rattle.pz_classes_rules.specs.Members.{fields, variables, ports}
use Rattle.pz_classes_rules.specs.Methods.{process_method}
use Rattle.pz_classes_rules.specs.Starts.{init, start_call}
use Rattle.pz_classes_rules.specs.CallRules.{start}
use Rattle.pz_classes_rules.specs.Kinds.{is_process}
use Rattle.pz_classes_rules.specs.Words.{Mentions}
use Rattle.pz_classes_rules.specs.Apart.{AreApart}
use Rattle.pz_classes_rules.specs.RepeatRules.{same_name}
use Rattle.pz_classes_rules.specs.Soundness.{IsSound}

-- these begin with those
pub record BeginsWith (all first : List Id) : Type 0 where
  pub more : List Id
  pub is : all ≡ first ++ more

-- What an ancestor has begins what the class has: a slot or a port of the ancestor is the same one
-- in the class.
pub record Inherits (m : ModelTree) (c a : ℕ) : Type 0 where
  pub fields_begin : BeginsWith (fields m c) (fields m a)
  pub variables_begin : BeginsWith (variables m c) (variables m a)
  pub ports_begin : BeginsWith (ports m c) (ports m a)

-- The class starts with a call that it or an ancestor names, and has the method that is called.
pub record StartsWell (m : ModelTree) (c : ℕ) : Type 0 where
  pub from : ℕ
  pub from_in : Contains (ancestors m c) from
  pub the_start : StartTree
  pub is_start : start m c ≡ Some the_start
  pub is_call : init m c ≡ Some (start_call m from the_start)
  pub has_method : IsSome (process_method m c the_start.method.name (count the_start.args) 0)

pub record ClassesFit (m : ModelTree) : Type 0 where
  pub inherits : (c a : ℕ) → Contains (ancestors m c) a → Inherits m c a
  pub fields_apart : (c : ℕ) → AreApart same_name (fields m c)
  pub variables_apart : (c : ℕ) → AreApart same_name (variables m c)
  pub ports_apart : (c : ℕ) → AreApart same_name (ports m c)
  pub starts : (c : ℕ) (d : DeclTree) → declaration m c ≡ Some d → IsTrue (is_process d) → StartsWell m c
  -- a method that is called in a class is a method of the class and of each that descends from it
  pub called : (a : ℕ) (d : DeclTree) (p : LocalScope) (name : Id) (inputs outputs : ℕ) → Mentions m a d p (Called name inputs outputs)
      → (c : ℕ) → Contains (ancestors m c) a → IsSome (process_method m c name.name inputs outputs)

-- in a sound model names are inherited in order, and what is called is there
abbrev pub SoundClassesFit : Type 0
SoundClassesFit = (m : ModelTree) → IsSound m → ClassesFit m
