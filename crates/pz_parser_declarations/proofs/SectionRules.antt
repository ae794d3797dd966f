-- The rules for the parent, the ports, the variables, and the call with which a process starts.
use Rattle.std.proofs.Common.{◌≡◌, ℕ, suc, ◌+◌, ◌<◌, true, not, List, [], ◌∷◌, ◌++◌, length, Ok, refl, ap, sym, ◌∙◌, arith, append_assoc}
use Rattle.pz_syntax.specs.declared.tokens.Pos.{Pos}
use Rattle.pz_syntax.specs.declared.tokens.Symbol.TheVariants as s
use Rattle.pz_syntax.specs.declared.tokens.Keyword.TheVariants as k
use Rattle.pz_syntax.specs.declared.tokens.TokenKind.TheVariants as kind
use Rattle.pz_syntax.specs.declared.tokens.Mark.{Mark}
use Rattle.pz_syntax.specs.declared.names.Id.{Id}
use Rattle.pz_syntax.specs.Marks.{symbol, head, word_text, names_text, section as section_text}
use Rattle.pz_syntax.specs.ExpressionView.{Tree, list_of as expressions}
use Rattle.pz_syntax.specs.ExpressionText.{texts}
use Rattle.pz_syntax.specs.Classes.{StartTree}
use Rattle.pz_syntax.specs.ClassText.{variables_text, start_text}
use Rattle.pz_syntax.specs.ModelForm.{Each, IfWritten, AreVariables, IsStart}
use Rattle.pz_syntax.specs.ModelNesting.{start_nesting}
use Rattle.pz_parser_cursor.specs.declared.ahead.Next.TheVariants as n
use Rattle.pz_parser_cursor.specs.devices.LookAhead.{next, same}
use Rattle.pz_parser_cursor.specs.devices.Input.{Tokens, marks, after, identifier, name, position, sees}
use Rattle.pz_parser_cursor.specs.devices.Device.{expect, expect_id}
use Rattle.pz_parser_cursor.specs.devices.Lists.{list_of}
use Rattle.pz_parser_cursor.specs.devices.Names as names
use Rattle.pz_parser_cursor.specs.Places.{located, place_id, place_names, place_variables, place_section}
use Rattle.pz_parser_cursor.proofs.Steps.{bind_ok, expected, expect_id_ok}
use Rattle.pz_parser_cursor.proofs.Words.{head_is}
use Rattle.pz_parser_cursor.proofs.Reading.{Sound, Complete, ok_took, split_located}
use Rattle.pz_parser_cursor.proofs.Joined.{token}
use Rattle.pz_parser_cursor.proofs.Optional.{or_none_sound}
use Rattle.pz_parser_cursor.proofs.Named.{Any, Whatever, StopsVariables, comma_is, comma_seen, word_sound, word_complete, optional_variables_sound, optional_variables_complete}
use Rattle.pz_parser_cursor.proofs.Sections.{section_sound, section_complete, ports_complete}
use Rattle.pz_parser_expressions.specs.declared.rule.Rule.TheVariants as rule
use Rattle.pz_parser_expressions.specs.devices.Values.{expr, exprs_before}
use Rattle.pz_parser_expressions.specs.ExpressionPlaces.{place_all}
use Rattle.pz_parser_expressions.proofs.Texts.{Fits, are, nested, list_back}
use Rattle.pz_parser_expressions.proofs.Readings.{exprs_sound, expr_sound}
use Rattle.pz_parser_expressions.proofs.Completeness.{before_given, expr_complete}
use Rattle.pz_parser_declarations.specs.devices.Sections as spec
use Rattle.pz_parser_declarations.specs.DeclarationPlaces.{place_start}
use Rattle.pz_parser_cursor.proofs.Orders.{Behind, behind_not}

-- ---- the parent, the ports and the variables

pub parent_section_sound : Sound (section_text k.Extends word_text) spec.parent_section (IfWritten Any)
unfolding spec.parent_section
parent_section_sound = section_sound n.Extends k.Extends word_text names.word Any refl word_sound

extends_seen : (p : Pos) (i : Tokens) → sees n.Extends (token (kind.Key k.Extends) p ∷ i) ≡ true
unfolding sees same next
extends_seen p i = refl

pub parent_section_complete : Complete (section_text k.Extends word_text) (place_section place_id) spec.parent_section (IfWritten Any) (Behind 1)
unfolding spec.parent_section
parent_section_complete = record {
  gives = λ at m t j p h.
      (section_complete n.Extends k.Extends word_text names.word Any extends_seen place_id Whatever word_complete).gives at m t j p (tt, behind_not 1 (next j) n.Extends h (omega arith));
}

pub ports_section_complete : Complete (section_text k.Ports names_text) (place_section place_names) names.ports (IfWritten Any) (Behind 2)
ports_section_complete = record {
  gives = λ at m t j p h.
      ports_complete.gives at m t j p ((behind_not 2 (next j) n.Comma h (omega arith), behind_not 2 (next j) n.Word h (omega arith)), behind_not 2 (next j) n.Ports h (omega arith));
}

pub variables_section_sound : Sound (section_text k.Variables variables_text) spec.variables_section (IfWritten AreVariables)
unfolding spec.variables_section
variables_section_sound = section_sound n.Variables k.Variables variables_text names.optional_variables AreVariables refl optional_variables_sound

variables_seen : (p : Pos) (i : Tokens) → sees n.Variables (token (kind.Key k.Variables) p ∷ i) ≡ true
unfolding sees same next
variables_seen p i = refl

pub variables_section_complete : Complete (section_text k.Variables variables_text) (place_section place_variables) spec.variables_section (IfWritten AreVariables) (Behind 4)
unfolding spec.variables_section
variables_section_complete = record {
  gives = λ at m t j p h.
      (section_complete n.Variables k.Variables variables_text names.optional_variables AreVariables variables_seen place_variables StopsVariables optional_variables_complete).gives at m t j p
      ((behind_not 4 (next j) n.Comma h (omega arith), behind_not 4 (next j) n.Word h (omega arith), behind_not 4 (next j) n.Head h (omega arith)), behind_not 4 (next j) n.Variables h (omega arith));
}

-- ---- the call

-- a call whose constructs nest less deep than the bound
abbrev pub StartFits : ℕ → StartTree → Type 0
StartFits bound c = IsStart c × (start_nesting c < bound)

abbrev head_text : Id → List Mark
head_text x = head x ∷ []

head_sound : Sound head_text (expect_id n.Head) Any
head_sound = record {
  reads = λ i y e.
      let r = expect_id_ok n.Head i y e in
      record { parts = head_is i r.0 ∙ ap (λ x. head x ∷ marks (after i)) r.1 ∙ ap (λ j. head y.0 ∷ marks j) r.2; meets = tt };
}

module _ (depth : ℕ) where
  abbrev arguments_text : List Tree → List Mark
  arguments_text ts = texts s.Comma (expressions ts)

  start_arguments_sound : Sound arguments_text (spec.start_arguments depth) (Each (Fits (suc depth) 0))
  unfolding spec.start_arguments exprs_before
  start_arguments_sound = or_none_sound arguments_text (λ i. not (sees n.RightParen i)) (list_of (expr depth rule.Expression) n.Comma) (Fits (suc depth) 0) refl (exprs_sound (suc depth) (expr depth) (expr_sound depth) n.Comma s.Comma refl)

  pub start_sound : Sound start_text (spec.start depth) (StartFits (suc depth))
  unfolding spec.start
  start_sound = record {
    reads = λ i y e.
        let a = bind_ok (expect_id n.Head i) _ y e in
        let method = head_sound.reads i a.0 a.1 in
        let b = bind_ok (expect n.LeftParen a.0.1) _ y a.2 in
        let left = expected n.LeftParen (kind.Sym s.LeftParen) a.0.1 b.0 refl b.1 in
        let c = bind_ok (spec.start_arguments depth b.0.1) _ y b.2 in
        let args = start_arguments_sound.reads b.0.1 c.0 c.1 in
        let d = bind_ok (expect n.RightParen c.0.1) _ y c.2 in
        let right = expected n.RightParen (kind.Sym s.RightParen) c.0.1 d.0 refl d.1 in
        let f = bind_ok (expect n.LeftParen d.0.1) _ y d.2 in
        let left_again = expected n.LeftParen (kind.Sym s.LeftParen) d.0.1 f.0 refl f.1 in
        let g = bind_ok (expect n.RightParen f.0.1) _ y f.2 in
        let right_again = expected n.RightParen (kind.Sym s.RightParen) f.0.1 g.0 refl g.1 in
        let close = right ∙ ap (λ r. symbol s.RightParen ∷ r) (left_again ∙ ap (λ r. symbol s.LeftParen ∷ r) right_again) in
        ok_took (record { method = a.0.0; args = expressions c.0.0 }, g.0.1) y g.2 (record {
          parts = method.parts ∙ ap (λ r. head a.0.0 ∷ r) (left ∙ ap (λ r. symbol s.LeftParen ∷ r) (args.parts ∙ ap (λ r. arguments_text c.0.0 ++ r) close
              ∙ sym (append_assoc (arguments_text c.0.0) (symbol s.RightParen ∷ symbol s.LeftParen ∷ symbol s.RightParen ∷ []) (marks g.0.1))));
          meets = (are (suc depth) c.0.0 args.meets, nested (suc depth) c.0.0 (omega arith) args.meets);
        });
  }

  start_given : (at : ℕ → Pos) (m : ℕ) (c : StartTree) (j : Tokens) → StartFits (suc depth) c → spec.start depth (located at m (start_text c) ++ j) ≡ Ok (place_start at m c, j)
  unfolding spec.start spec.start_arguments next after identifier name position expect expect_id sees same
  start_given at m c j f =
      let first = suc (suc m) in
      let close = symbol s.RightParen ∷ symbol s.LeftParen ∷ symbol s.RightParen ∷ [] in
      let r = located at (first + length (texts s.Comma c.args)) close ++ j in
      rw (split_located at first (texts s.Comma c.args) close j, before_given (suc depth) (expr depth) (expr_complete depth) n.Comma s.Comma (omega arith) comma_is comma_seen n.RightParen at first c.args r refl f.0 f.1 refl (omega arith) (λ e. absurd cc), list_back (place_all at first c.args)) refl

  pub start_complete : Complete start_text place_start (spec.start depth) (StartFits (suc depth)) Whatever
  start_complete = record { gives = λ at m c j f h. start_given at m c j f }

  pub start_section_sound : Sound (section_text k.Init start_text) (spec.start_section depth) (IfWritten (StartFits (suc depth)))
  unfolding spec.start_section
  start_section_sound = section_sound n.Init k.Init start_text (spec.start depth) (StartFits (suc depth)) refl start_sound

  init_seen : (p : Pos) (i : Tokens) → sees n.Init (token (kind.Key k.Init) p ∷ i) ≡ true
  unfolding sees same next
  init_seen p i = refl

  pub start_section_complete : Complete (section_text k.Init start_text) (place_section place_start) (spec.start_section depth) (IfWritten (StartFits (suc depth))) (Behind 5)
  unfolding spec.start_section
  start_section_complete = record {
    gives = λ at m t j p h.
        (section_complete n.Init k.Init start_text (spec.start depth) (StartFits (suc depth)) init_seen place_start Whatever start_complete).gives at m t j p (tt, behind_not 5 (next j) n.Init h (omega arith));
  }
