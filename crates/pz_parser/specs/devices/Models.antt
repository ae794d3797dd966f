-- Declarations and whole models, as devices of the proofs.
use Rattle.std.specs.Prelude.{ℕ, zero, suc, Bool, true, false, List, [], ◌∷◌, length}
use Rattle.pz_syntax.specs.Classes.{DeclTree, data_class, process_class, cluster_class, system, ModelTree}
use Rattle.pz_parser_cursor.specs.declared.ahead.Next.{Next}
use Rattle.pz_parser_cursor.specs.declared.ahead.Next.TheVariants as n
use Rattle.pz_parser_cursor.specs.devices.LookAhead.{next}
use Rattle.pz_parser_cursor.specs.devices.Input.{Tokens}
use Rattle.pz_parser_cursor.specs.devices.Device.{Parser, ◌>>=◌, ◌>>◌, ◌<$>◌, pure, refuse, peek}
use Rattle.pz_parser_cursor.specs.devices.Lists.{with_front, each_of}
use Rattle.pz_parser_declarations.specs.devices.DataClasses as classes
use Rattle.pz_parser_declarations.specs.devices.Clusters as clusters
use Rattle.pz_parser.specs.devices.Processes as processes

abbrev pub begins_by : Next → Bool
begins_by n.Data = true
begins_by n.Process = true
begins_by n.Cluster = true
begins_by n.System = true
begins_by _ = false

-- the keyword of a declaration stands next
unfoldable pub begins_decl : Tokens → Bool
begins_decl i = begins_by (next i)

abbrev pub end_by : ℕ → Parser (Unit {0})
end_by zero = pure tt
end_by (suc n) = refuse

-- no token is left
unfoldable pub end : Parser (Unit {0})
end = λ i. end_by (length i) i

module _ (depth : ℕ) where
  abbrev pub decl_by : Next → Parser DeclTree
  decl_by n.Data = data_class <$> classes.data_class depth
  decl_by n.Process = process_class <$> processes.process_class depth
  decl_by n.Cluster = cluster_class <$> clusters.cluster_class
  decl_by n.System = system <$> clusters.system
  decl_by _ = refuse

  unfoldable pub decl : Parser DeclTree
  decl = peek >>= decl_by

  -- the declarations that begin so
  unfoldable pub more_decls : List DeclTree → Parser (List DeclTree)
  more_decls front = λ i. with_front front (each_of begins_decl decl i)

  -- one declaration or more
  unfoldable pub decls : Parser (List DeclTree)
  decls = do
    d ← decl
    more_decls (d ∷ [])

  unfoldable pub model : Parser ModelTree
  model = do
    ds ← decls
    end
    pure (record { decls = ds })
