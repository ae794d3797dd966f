-- Models as plain data, as far as they hold expressions or statements; the other parts are plain
-- data already. Variables, classes and ports are names at their places.
use Rattle.std.specs.Prelude.{List, Option}
use Rattle.pz_syntax.specs.declared.names.Id.{Id}
use Rattle.pz_syntax.specs.declared.classes.VarGroup.{VarGroup}
use Rattle.pz_syntax.specs.declared.classes.Message.{Message}
use Rattle.pz_syntax.specs.declared.clusters.ClusterClass.{ClusterClass}
use Rattle.pz_syntax.specs.declared.clusters.SystemDecl.{SystemDecl}
use Rattle.pz_syntax.specs.Expressions.{Expressions}
use Rattle.pz_syntax.specs.Statements.{Statements}

pub record DataMethodTree : Type 0 where
  pub name : Id
  pub inputs : Option (List VarGroup)
  pub result : Id
  pub locals : Option (List VarGroup)
  pub body : Expressions Id Id

pub record DataClassTree : Type 0 where
  pub name : Id
  pub parent : Option Id
  pub variables : Option (List VarGroup)
  pub methods : Option (List DataMethodTree)

pub record StartTree : Type 0 where
  pub method : Id
  pub args : Expressions Id Id

pub record ProcessMethodTree : Type 0 where
  pub name : Id
  pub inputs : List VarGroup
  pub outputs : List VarGroup
  pub locals : Option (List VarGroup)
  pub body : Statements Id Id Id

pub record ProcessClassTree : Type 0 where
  pub name : Id
  pub parameters : Option (List VarGroup)
  pub parent : Option Id
  pub ports : Option (List Id)
  pub messages : Option (List Message)
  pub variables : Option (List VarGroup)
  pub start : Option StartTree
  pub methods : Option (List ProcessMethodTree)

pub data DeclTree : Type 0 where
  data_class : DataClassTree → DeclTree
  process_class : ProcessClassTree → DeclTree
  cluster_class : ClusterClass → DeclTree
  system : SystemDecl → DeclTree

-- the declarations in the order of the text
pub record ModelTree : Type 0 where
  pub decls : List DeclTree
