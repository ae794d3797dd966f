-- Models with the positions of the tokens of their texts.
use Rattle.pz_syntax.specs.Classes.{DeclTree, data_class, process_class, cluster_class, system, ModelTree}
use Rattle.pz_syntax.specs.ModelText.{decl_text}
use Rattle.pz_parser_cursor.specs.Places.{Placing, place_each}
use Rattle.pz_parser_declarations.specs.DeclarationPlaces.{place_data_class}
use Rattle.pz_parser_declarations.specs.ClusterPlaces.{place_cluster_class, place_system}
use Rattle.pz_parser.specs.ProcessPlaces.{place_process_class}

abbrev pub place_decl : Placing DeclTree
place_decl at n (data_class c) = data_class (place_data_class at n c)
place_decl at n (process_class c) = process_class (place_process_class at n c)
place_decl at n (cluster_class c) = cluster_class (place_cluster_class at n c)
place_decl at n (system d) = system (place_system at n d)

abbrev pub place_model : Placing ModelTree
place_model at n m = record { decls = place_each decl_text place_decl at n m.decls }
