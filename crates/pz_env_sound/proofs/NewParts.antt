-- What is asked of the class and of the instance that are new.
use Rattle.std.proofs.Common.{◌≡◌, false, None, [], ◌∷◌, ◌++◌}
use Rattle.std.specs.Option.{unwrap_or}
use Rattle.pz_env_tree.specs.pz_syntax.declared.clusters.Instance.{Instance}
use Rattle.pz_env_tree.specs.pz_syntax.declared.clusters.SystemDecl.{SystemDecl}
use Rattle.pz_env_tree.specs.pz_syntax.Classes.{ProcessClassTree, ModelTree}
use Rattle.pz_env_tree.specs.pz_classes_code.ReservedNames.{is_primitive, is_unsupported}
use Rattle.pz_env_tree.specs.pz_classes_rules.Numbers.{class}

-- no class of the model has its name; it extends none and has no parameters
pub record IsFresh (m : ModelTree) (e : ProcessClassTree) : Type 0 where
  pub unknown : class m e.name.name ≡ None
  pub supported : is_unsupported e.name.name ≡ false
  pub free : is_primitive e.name.name ≡ false
  pub alone : e.parent ≡ None
  pub bare : e.parameters ≡ None

-- the system has one more instance, of that class, which is given nothing
pub record Gains (f : SystemDecl → SystemDecl) (e : ProcessClassTree) (i : Instance) : Type 0 where
  pub instances : (s : SystemDecl) → unwrap_or (f s).instances [] ≡ unwrap_or s.instances [] ++ i ∷ []
  pub class : i.class.name ≡ e.name.name
  pub given : i.given ≡ None
