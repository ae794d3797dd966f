-- Which models the grammar has.
use Rattle.std.specs.Prelude.{List, [], ◌∷◌, Option, Some, None, ⊤}
use Rattle.pz_syntax.specs.declared.classes.VarGroup.{VarGroup}
use Rattle.pz_syntax.specs.declared.clusters.Channel.{Channel}
use Rattle.pz_syntax.specs.declared.clusters.ClusterClass.{ClusterClass}
use Rattle.pz_syntax.specs.declared.clusters.SystemDecl.{SystemDecl}
use Rattle.pz_syntax.specs.ExpressionForm.{IsBody, AreExpressions}
use Rattle.pz_syntax.specs.StatementForm.{AreStatements}
use Rattle.pz_syntax.specs.Classes.{DataMethodTree, DataClassTree, StartTree, ProcessMethodTree, ProcessClassTree, DeclTree, data_class, process_class, cluster_class, system, ModelTree}

abbrev pub IsNonempty : {A : Type 0} → List A → Type 0
IsNonempty [] = ⊥
IsNonempty (x ∷ xs) = ⊤

-- each of none or more
abbrev pub Each : {A : Type 0} → (A → Type 0) → List A → Type 0
Each P [] = ⊤
Each P (x ∷ xs) = P x × Each P xs

-- what is written, if it is
abbrev pub IfWritten : {A : Type 0} → (A → Type 0) → Option A → Type 0
IfWritten P None = ⊤
IfWritten P (Some x) = P x

-- at least one name before the colon
abbrev pub IsGroup : VarGroup → Type 0
IsGroup g = IsNonempty g.names

abbrev pub AreVariables : List VarGroup → Type 0
AreVariables = Each IsGroup

-- at least one group between the bars
abbrev pub AreLocals : List VarGroup → Type 0
AreLocals groups = IsNonempty groups × AreVariables groups

abbrev pub IsDataMethod : DataMethodTree → Type 0
IsDataMethod m = IfWritten AreVariables m.inputs × IfWritten AreLocals m.locals × IsBody m.body

abbrev pub IsDataClass : DataClassTree → Type 0
IsDataClass c = IfWritten AreVariables c.variables × IfWritten (Each IsDataMethod) c.methods

abbrev pub IsStart : StartTree → Type 0
IsStart c = AreExpressions c.args

abbrev pub IsProcessMethod : ProcessMethodTree → Type 0
IsProcessMethod m = AreVariables m.inputs × AreVariables m.outputs × IfWritten AreLocals m.locals × AreStatements m.body

abbrev pub IsProcessClass : ProcessClassTree → Type 0
IsProcessClass c = IfWritten AreVariables c.parameters × IfWritten AreVariables c.variables × IfWritten IsStart c.start × IfWritten (Each IsProcessMethod) c.methods

-- at least one end between the braces
abbrev pub IsChannel : Channel → Type 0
IsChannel c = IsNonempty c.ends

abbrev pub IsClusterClass : ClusterClass → Type 0
IsClusterClass c = IfWritten AreVariables c.parameters × IfWritten (Each IsChannel) c.channels

abbrev pub IsSystem : SystemDecl → Type 0
IsSystem d = IfWritten (Each IsChannel) d.channels

abbrev pub IsDecl : DeclTree → Type 0
IsDecl (data_class c) = IsDataClass c
IsDecl (process_class c) = IsProcessClass c
IsDecl (cluster_class c) = IsClusterClass c
IsDecl (system d) = IsSystem d

-- at least one declaration
abbrev pub IsModel : ModelTree → Type 0
IsModel m = IsNonempty m.decls × Each IsDecl m.decls
