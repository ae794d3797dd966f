-- Refusals, worked out from the definitions.
use Rattle.std.proofs.Common.{◌≡◌, ℕ, zero, suc, ◌≤◌, inl, List, [], ◌∷◌, take, None, refl, arith, codes}
use Rattle.pz_bind_rules.specs.pz_syntax.declared.tokens.Pos.{Pos}
use Rattle.pz_bind_rules.specs.pz_syntax.Classes.{DeclTree, data_class, process_class, cluster_class, system, ModelTree}
use Rattle.pz_bind_rules.specs.pz_syntax.declared.tokens.Keyword.TheVariants as k
use Rattle.pz_bind_rules.specs.pz_syntax.Marks.{keyword, each_text}
use Rattle.pz_bind_rules.specs.pz_syntax.ModelForm.{IsNonempty}
use Rattle.pz_bind_rules.specs.pz_syntax.ModelText.{decl_text}
use Rattle.pz_parser_cursor.specs.devices.Input.{marks}
use Rattle.pz_lexer.specs.declared.error.LexError.TheVariants as lex
use Rattle.pz_lexer.specs.declared.sorts.Reason.TheVariants as reason
use Rattle.pz_lexer.specs.declared.sorts.Sort.TheVariants as sort
use Rattle.pz_lexer.specs.Pieces.{a_blank}
use Rattle.pz_lexer.specs.Places.{origin}
use Rattle.pz_lexer.specs.Refusals.{no_token}
use Rattle.pz_parser.specs.declared.error.ParseError.TheVariants as parse
use Rattle.pz_parser.specs.Cuts.{IsCut}
use Rattle.pz_parser.specs.Parsing.{IsTextOf}
use Rattle.pz_run_reading.specs.Models.{nesting_limit}
use Rattle.pz_run_reading.specs.Refusals.{IsRefused, no_tokens, no_tree, bad_byte, syntax}
use Rattle.pz_run_reading.specs.declared.refusal.Refusal.TheVariants as refusal

-- a byte that begins no token, behind two blanks
stray : IsRefused (codes "  #") (refusal.BadByte (record { line = 1; column = 3 }))
stray =
    let at : Pos = record { line = 1; column = 3 } in
    no_tokens (lex.BadByte at) (refusal.BadByte at)
    (record {
      pieces = record { text = codes " "; sort = sort.Blank } ∷ record { text = codes " "; sort = sort.Blank } ∷ [];
      before = [];
      rest = codes "#";
      reason = reason.BadByte;
      spelling = refl;
      cut = (a_blank refl, (a_blank refl, tt));
      stops = no_token refl;
      error = refl;
    })
    (bad_byte at)

-- every declaration begins with a word
no_text : (ds : List DeclTree) → IsNonempty ds → marks [] ≡ each_text decl_text ds → ⊥
no_text [] some e = absurd some
no_text (data_class c ∷ ds) some e = cc
no_text (process_class c ∷ ds) some e = cc
no_text (cluster_class c ∷ ds) some e = cc
no_text (system d ∷ ds) some e = cc

no_model : (t : ModelTree) → ¬ IsTextOf nesting_limit [] t
no_model t is = no_text t.decls is.0.0 is.2

-- nothing may stand of a model
system_alone : ModelTree
system_alone = record { decls = system (record { pos = origin; instances = None; channels = None }) ∷ [] }

nothing_cut : (n : ℕ) → n ≤ 0 → IsCut nesting_limit (take n [])
unfolding system_alone
nothing_cut zero le = (system_alone, (tt, (tt, tt)), inl (keyword k.System ∷ [], refl))
nothing_cut (suc n) le = absurd (omega (arith, le))

-- no text at all
empty : IsRefused [] (refusal.Syntax origin)
empty =
    no_tree [] (parse.Syntax origin) (refusal.Syntax origin) (record { pieces = []; spelling = refl; cut = tt; kept = refl }) no_model (0, (omega arith, nothing_cut, λ lt c. absurd (omega (arith, lt))), refl, λ depth lt c. absurd (omega (arith, lt))) (syntax origin)
