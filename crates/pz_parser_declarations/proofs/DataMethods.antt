-- The rules for the methods of a data class.
use Rattle.std.proofs.Common.{◌≡◌, ◌≢◌, ℕ, suc, ◌+◌, ◌<◌, Bool, true, false, List, ◌∷◌, ◌++◌, length, Ok, refl, ap, sym, ◌∙◌, arith, append_assoc}
use Rattle.pz_syntax.specs.declared.tokens.Pos.{Pos}
use Rattle.pz_syntax.specs.declared.tokens.Symbol.TheVariants as s
use Rattle.pz_syntax.specs.declared.tokens.TokenKind.TheVariants as kind
use Rattle.pz_syntax.specs.declared.tokens.Mark.{Mark}
use Rattle.pz_syntax.specs.declared.names.Id.{Id}
use Rattle.pz_syntax.specs.Marks.{symbol, word, selector_head, each_text, optional as optional_text}
use Rattle.pz_syntax.specs.Expressions.{Expressions, none, more}
use Rattle.pz_syntax.specs.ExpressionView.{list_of as expressions}
use Rattle.pz_syntax.specs.ExpressionText.{text, texts, tail_texts}
use Rattle.pz_syntax.specs.ExpressionForm.{IsBody}
use Rattle.pz_syntax.specs.Classes.{DataMethodTree}
use Rattle.pz_syntax.specs.ClassText.{formal_text, locals_text, data_method_text}
use Rattle.pz_syntax.specs.ModelForm.{Each, IsDataMethod}
use Rattle.pz_syntax.specs.ModelNesting.{data_method_nesting}
use Rattle.pz_parser_cursor.specs.declared.ahead.Next.{Next}
use Rattle.pz_parser_cursor.specs.declared.ahead.Next.TheVariants as n
use Rattle.pz_parser_cursor.specs.devices.LookAhead.{next, same}
use Rattle.pz_parser_cursor.specs.devices.Input.{Tokens, marks, after, identifier, sees, selects_head, selects_head_by, spelled_init}
use Rattle.pz_parser_cursor.specs.devices.Device.{expect}
use Rattle.pz_parser_cursor.specs.devices.Lists.{list_of}
use Rattle.pz_parser_cursor.specs.devices.Names as names
use Rattle.pz_parser_cursor.specs.Places.{located}
use Rattle.pz_parser_cursor.proofs.Steps.{bind_ok, expected}
use Rattle.pz_parser_cursor.proofs.Words.{selector_head_is, selector_head_seen}
use Rattle.pz_parser_cursor.proofs.Reading.{Took, Sound, Complete, ok_took, split_located}
use Rattle.pz_parser_cursor.proofs.Each.{each_sound, each_complete}
use Rattle.pz_parser_cursor.proofs.Named.{word_sound, word_complete, optional_formal_sound, optional_formal_complete, optional_locals_sound, optional_locals_complete}
use Rattle.pz_parser_expressions.specs.declared.rule.Rule.TheVariants as rule
use Rattle.pz_parser_expressions.specs.devices.Values.{expr}
use Rattle.pz_parser_expressions.specs.ExpressionPlaces.{place_all}
use Rattle.pz_parser_expressions.proofs.Texts.{starts, begins, body, body_nested, list_back}
use Rattle.pz_parser_expressions.proofs.Operators.{binding}
use Rattle.pz_parser_expressions.proofs.Readings.{exprs_sound, expr_sound}
use Rattle.pz_parser_expressions.proofs.Completeness.{body_given, expr_complete}
use Rattle.pz_parser_declarations.specs.devices.DataClasses as spec
use Rattle.pz_parser_declarations.specs.DeclarationPlaces.{place_data_method, place_data_methods}
use Rattle.pz_parser_cursor.proofs.Orders.{Ends}

-- a method whose constructs nest less deep than the bound
abbrev pub DataMethodFits : ℕ → DataMethodTree → Type 0
DataMethodFits bound m = IsDataMethod m × (data_method_nesting m < bound)

-- what does not go on with a body
abbrev StopsBody : Next → Type 0
StopsBody x = (binding x < 1) × (x ≢ n.Semicolon)

head_stops : (x : Next) (spelled : Bool) → selects_head_by x spelled ≡ true → StopsBody x
head_stops n.InitHead spelled e = (omega arith, λ h. absurd cc)
head_stops n.Head spelled e = (omega arith, λ h. absurd cc)
head_stops _ spelled e = absurd cc

-- the name of the next method stops the body before it
named_stops : (i : Tokens) → selects_head i ≡ true → StopsBody (next i)
unfolding selects_head
named_stops i e = head_stops (next i) (spelled_init i) e

-- what stands behind a declaration ends the methods
behind_stops : (x : Next) → Ends x → StopsBody x
behind_stops n.Other h = (omega arith, λ e. absurd cc)
behind_stops n.Data h = (omega arith, λ e. absurd cc)
behind_stops n.Process h = (omega arith, λ e. absurd cc)
behind_stops n.Cluster h = (omega arith, λ e. absurd cc)
behind_stops n.System h = (omega arith, λ e. absurd cc)
behind_stops _ h = absurd (omega (arith, h))

behind_ends : (x : Next) (spelled : Bool) → Ends x → selects_head_by x spelled ≡ false
behind_ends n.Head spelled h = absurd (omega (arith, h))
behind_ends n.InitHead spelled h = absurd (omega (arith, h))
behind_ends _ spelled h = refl

methods_end : (j : Tokens) → Ends (next j) → selects_head j ≡ false
unfolding selects_head
methods_end j h = behind_ends (next j) (spelled_init j) h

-- a body does not begin with a bar
no_bar : (at : ℕ → Pos) (m : ℕ) (ts : Expressions Id Id) (j : Tokens) → IsBody ts → next (located at m (texts s.Semicolon ts) ++ j) ≢ n.Bar
no_bar at m none j h = absurd h
no_bar at m (more t ts) j h =
    let first = ap (λ i. starts (next i)) (split_located at m (text t) (tail_texts s.Semicolon ts) j) ∙ begins at m t (located at (m + length (text t)) (tail_texts s.Semicolon ts) ++ j) h.0 in
    λ e. clash (ap starts e) first
  where
    clash : {b : Bool} → b ≡ false → b ≡ true → ⊥
    clash e f = absurd cc

-- behind the inputs
abbrev rest_text : DataMethodTree → List Mark
rest_text m = symbol s.Colon ∷ word m.result ∷ (optional_text locals_text m.locals ++ texts s.Semicolon m.body)

module _ (depth : ℕ) where
  data_method_at : (i : Tokens) (y : DataMethodTree × Tokens) → selects_head i ≡ true → spec.data_method depth i ≡ Ok y → Took data_method_text (DataMethodFits (suc depth)) i y
  unfolding spec.data_method
  data_method_at i y h e =
      let a = bind_ok (names.optional_formal (after i)) _ y e in
      let inputs = optional_formal_sound.reads (after i) a.0 a.1 in
      let b = bind_ok (expect n.Colon a.0.1) _ y a.2 in
      let colon = expected n.Colon (kind.Sym s.Colon) a.0.1 b.0 refl b.1 in
      let c = bind_ok (names.word b.0.1) _ y b.2 in
      let result = word_sound.reads b.0.1 c.0 c.1 in
      let d = bind_ok (names.optional_locals c.0.1) _ y c.2 in
      let locals = optional_locals_sound.reads c.0.1 d.0 d.1 in
      let f = bind_ok (list_of (expr depth rule.Expression) n.Semicolon d.0.1) _ y d.2 in
      let ts = (exprs_sound (suc depth) (expr depth) (expr_sound depth) n.Semicolon s.Semicolon refl).reads d.0.1 f.0 f.1 in
      ok_took (record { name = identifier i; inputs = a.0.0; result = c.0.0; locals = d.0.0; body = expressions f.0.0 }, f.0.1) y f.2 (record {
        parts = selector_head_is i h ∙ ap (λ r. selector_head (identifier i) ∷ r) (inputs.parts ∙ ap (λ r. optional_text formal_text a.0.0 ++ r) (colon ∙ ap (λ r. symbol s.Colon ∷ r) (result.parts ∙ ap (λ r. word c.0.0 ∷ r) (locals.parts ∙ ap (λ r. optional_text locals_text d.0.0 ++ r) ts.parts)))
            ∙ whole (optional_text formal_text a.0.0) c.0.0 (optional_text locals_text d.0.0) (texts s.Semicolon (expressions f.0.0)) (marks f.0.1));
        meets = ((inputs.meets, locals.meets, body (suc depth) f.0.0 ts.meets), body_nested (suc depth) f.0.0 ts.meets);
      })
    where
      whole : (before : List Mark) (result : Id) (locals ts j : List Mark) → before ++ symbol s.Colon ∷ word result ∷ (locals ++ (ts ++ j)) ≡ (before ++ symbol s.Colon ∷ word result ∷ (locals ++ ts)) ++ j
      whole before result locals ts j = ap (λ r. before ++ symbol s.Colon ∷ word result ∷ r) (sym (append_assoc locals ts j)) ∙ sym (append_assoc before (symbol s.Colon ∷ word result ∷ (locals ++ ts)) j)

  pub data_methods_sound : Sound (each_text data_method_text) (spec.data_methods depth) (Each (DataMethodFits (suc depth)))
  unfolding spec.data_methods
  data_methods_sound = each_sound data_method_text selects_head (spec.data_method depth) (DataMethodFits (suc depth)) data_method_at

  data_method_given : (at : ℕ → Pos) (k : ℕ) (m : DataMethodTree) (j : Tokens) → DataMethodFits (suc depth) m → StopsBody (next j) → spec.data_method depth (located at k (data_method_text m) ++ j) ≡ Ok (place_data_method at k m, j)
  unfolding spec.data_method next after expect sees same
  data_method_given at k m j f stop =
      let colon = suc k + length (optional_text formal_text m.inputs) in
      let behind = suc (suc colon) in
      let inner = behind + length (optional_text locals_text m.locals) in
      let last = located at inner (texts s.Semicolon m.body) ++ j in
      let rest = rest_text m in
      rw (
        (selector_head_seen (at k) m.name (located at (suc k) (optional_text formal_text m.inputs ++ rest) ++ j)).1,
        split_located at (suc k) (optional_text formal_text m.inputs) rest j,
        optional_formal_complete.gives at (suc k) m.inputs (located at colon rest ++ j) f.0.0 (λ e. absurd cc),
        word_complete.gives at (suc colon) m.result (located at behind (optional_text locals_text m.locals ++ texts s.Semicolon m.body) ++ j) tt tt,
        split_located at behind (optional_text locals_text m.locals) (texts s.Semicolon m.body) j,
        optional_locals_complete.gives at behind m.locals last f.0.1 (no_bar at inner m.body j f.0.2),
        body_given (suc depth) (expr depth) (expr_complete depth) at inner m.body j f.0.2 f.1 stop.0 stop.1,
        list_back (place_all at inner m.body),
      ) refl

  data_method_complete : Complete data_method_text place_data_method (spec.data_method depth) (DataMethodFits (suc depth)) StopsBody
  data_method_complete = record { gives = data_method_given }

  method_begins : (at : ℕ → Pos) (k : ℕ) (m : DataMethodTree) (j : Tokens) → DataMethodFits (suc depth) m → (selects_head (located at k (data_method_text m) ++ j) ≡ true) × StopsBody (next (located at k (data_method_text m) ++ j))
  method_begins at k m j f =
      let seen = (selector_head_seen (at k) m.name (located at (suc k) (optional_text formal_text m.inputs ++ rest_text m) ++ j)).0 in
      (seen, named_stops (located at k (data_method_text m) ++ j) seen)

  pub data_methods_complete : Complete (each_text data_method_text) place_data_methods (spec.data_methods depth) (Each (DataMethodFits (suc depth))) (Ends)
  unfolding spec.data_methods
  data_methods_complete = record {
    gives = λ at k ms j f h.
        each_complete data_method_text selects_head (spec.data_method depth) (DataMethodFits (suc depth)) place_data_method StopsBody method_begins (λ m f. omega arith) data_method_complete at k ms j f (behind_stops (next j) h) (methods_end j h);
  }
