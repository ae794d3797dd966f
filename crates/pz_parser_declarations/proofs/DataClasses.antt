-- The rule for data classes.
use Rattle.std.proofs.Common.{◌≡◌, ℕ, suc, ◌+◌, ◌<◌, true, List, [], ◌∷◌, ◌++◌, length, Option, Some, None, Ok, refl, ap, sym, ◌∙◌, arith, append_assoc}
use Rattle.pz_syntax.specs.declared.tokens.Pos.{Pos}
use Rattle.pz_syntax.specs.declared.tokens.Keyword.TheVariants as k
use Rattle.pz_syntax.specs.declared.tokens.TokenKind.TheVariants as kind
use Rattle.pz_syntax.specs.declared.tokens.Mark.{Mark}
use Rattle.pz_syntax.specs.declared.names.Id.{Id}
use Rattle.pz_syntax.specs.Marks.{keyword, word, word_text, each_text, section as section_text}
use Rattle.pz_syntax.specs.Classes.{DataMethodTree, DataClassTree}
use Rattle.pz_syntax.specs.ClassText.{variables_text, data_method_text, data_class_text}
use Rattle.pz_syntax.specs.ModelForm.{Each, IfWritten, IsDataMethod, IsDataClass}
use Rattle.pz_syntax.specs.ModelNesting.{greatest, optional_nesting, data_method_nesting, data_class_nesting}
use Rattle.pz_parser_cursor.specs.declared.ahead.Next.TheVariants as n
use Rattle.pz_parser_cursor.specs.devices.LookAhead.{next, same}
use Rattle.pz_parser_cursor.specs.devices.Input.{Tokens, marks, after, identifier, name, position, sees}
use Rattle.pz_parser_cursor.specs.devices.Device.{expect, expect_id}
use Rattle.pz_parser_cursor.specs.devices.Names as names
use Rattle.pz_parser_cursor.specs.Places.{located, place_section}
use Rattle.pz_parser_cursor.proofs.Steps.{bind_ok, expected}
use Rattle.pz_parser_cursor.proofs.Reading.{Sound, Complete, ok_took, split_located}
use Rattle.pz_parser_cursor.proofs.Joined.{token}
use Rattle.pz_parser_cursor.proofs.Named.{Any, word_sound}
use Rattle.pz_parser_cursor.proofs.Sections.{section_sound, section_complete}
use Rattle.pz_parser_declarations.specs.devices.Sections.{parent_section, variables_section}
use Rattle.pz_parser_declarations.specs.devices.DataClasses as spec
use Rattle.pz_parser_declarations.specs.DeclarationPlaces.{place_data_methods, place_data_class}
use Rattle.pz_parser_cursor.proofs.Orders.{Behind, Ends, behind_not, section_behind, sections_behind}
use Rattle.pz_parser_declarations.proofs.SectionRules.{parent_section_sound, parent_section_complete, variables_section_sound, variables_section_complete}
use Rattle.pz_parser_declarations.proofs.DataMethods.{DataMethodFits, data_methods_sound, data_methods_complete}

-- a data class whose constructs nest less deep than the bound
abbrev pub DataClassFits : ℕ → DataClassTree → Type 0
DataClassFits bound c = IsDataClass c × (data_class_nesting c < bound)

abbrev methods_text : List DataMethodTree → List Mark
methods_text = each_text data_method_text

module _ (bound : ℕ) where
  are_methods : (ms : List DataMethodTree) → 0 < bound → Each (DataMethodFits bound) ms → Each IsDataMethod ms × (greatest data_method_nesting ms < bound)
  are_methods [] lt f = (tt, lt)
  are_methods (m ∷ ms) lt f = let r = are_methods ms lt f.1 in ((f.0.0, r.0), omega (arith, f.0.1, r.1))

  written_methods : (o : Option (List DataMethodTree)) → 0 < bound → IfWritten (Each (DataMethodFits bound)) o → IfWritten (Each IsDataMethod) o × (optional_nesting (greatest data_method_nesting) o < bound)
  written_methods None lt f = (tt, lt)
  written_methods (Some ms) lt f = are_methods ms lt f

  methods_fit : (ms : List DataMethodTree) → Each IsDataMethod ms → greatest data_method_nesting ms < bound → Each (DataMethodFits bound) ms
  methods_fit [] p lt = tt
  methods_fit (m ∷ ms) p lt = ((p.0, omega (arith, lt)), methods_fit ms p.1 (omega (arith, lt)))

  written_fit : (o : Option (List DataMethodTree)) → IfWritten (Each IsDataMethod) o → optional_nesting (greatest data_method_nesting) o < bound → IfWritten (Each (DataMethodFits bound)) o
  written_fit None p lt = tt
  written_fit (Some ms) p lt = methods_fit ms p lt

variables_shown : (p : Pos) (i : Tokens) → next (token (kind.Key k.Variables) p ∷ i) ≡ n.Variables
unfolding next
variables_shown p i = refl

methods_shown : (p : Pos) (i : Tokens) → next (token (kind.Key k.Methods) p ∷ i) ≡ n.Methods
unfolding next
methods_shown p i = refl

methods_seen : (p : Pos) (i : Tokens) → sees n.Methods (token (kind.Key k.Methods) p ∷ i) ≡ true
unfolding sees same next
methods_seen p i = refl

module _ (depth : ℕ) where
  methods_section_sound : Sound (section_text k.Methods methods_text) (spec.data_methods_section depth) (IfWritten (Each (DataMethodFits (suc depth))))
  unfolding spec.data_methods_section
  methods_section_sound = section_sound n.Methods k.Methods methods_text (spec.data_methods depth) (Each (DataMethodFits (suc depth))) refl (data_methods_sound depth)

  methods_section_complete : Complete (section_text k.Methods methods_text) (place_section place_data_methods) (spec.data_methods_section depth) (IfWritten (Each (DataMethodFits (suc depth)))) (Ends)
  unfolding spec.data_methods_section
  methods_section_complete = record {
    gives = λ at m t j p h.
        (section_complete n.Methods k.Methods methods_text (spec.data_methods depth) (Each (DataMethodFits (suc depth))) methods_seen place_data_methods (Ends) (data_methods_complete depth)).gives at m t j p (h, behind_not 8 (next j) n.Methods h (omega arith));
  }

  -- What is read is the text of a data class that the grammar has, of at most this nesting.
  pub data_class_sound : Sound data_class_text (spec.data_class depth) (DataClassFits (suc depth))
  unfolding spec.data_class
  data_class_sound = record {
    reads = λ i y e.
        let a = bind_ok (expect n.Data i) _ y e in
        let data_word = expected n.Data (kind.Key k.Data) i a.0 refl a.1 in
        let b = bind_ok (expect n.Class a.0.1) _ y a.2 in
        let class_word = expected n.Class (kind.Key k.Class) a.0.1 b.0 refl b.1 in
        let c = bind_ok (names.word b.0.1) _ y b.2 in
        let called = word_sound.reads b.0.1 c.0 c.1 in
        let d = bind_ok (parent_section c.0.1) _ y c.2 in
        let parent = parent_section_sound.reads c.0.1 d.0 d.1 in
        let f = bind_ok (variables_section d.0.1) _ y d.2 in
        let variables = variables_section_sound.reads d.0.1 f.0 f.1 in
        let g = bind_ok (spec.data_methods_section depth f.0.1) _ y f.2 in
        let methods = methods_section_sound.reads f.0.1 g.0 g.1 in
        let fit = written_methods (suc depth) g.0.0 (omega arith) methods.meets in
        ok_took (record { name = c.0.0; parent = d.0.0; variables = f.0.0; methods = g.0.0 }, g.0.1) y g.2 (record {
          parts = data_word ∙ ap (λ r. keyword k.Data ∷ r) (class_word ∙ ap (λ r. keyword k.Class ∷ r) (called.parts ∙ ap (λ r. word c.0.0 ∷ r) (parent.parts ∙ ap (λ r. section_text k.Extends word_text d.0.0 ++ r) (variables.parts ∙ ap (λ r. section_text k.Variables variables_text f.0.0 ++ r) methods.parts)
              ∙ whole (section_text k.Extends word_text d.0.0) (section_text k.Variables variables_text f.0.0) (section_text k.Methods methods_text g.0.0) (marks g.0.1))));
          meets = ((variables.meets, fit.0), fit.1);
        });
  }
    where
      whole : (a b c j : List Mark) → a ++ (b ++ (c ++ j)) ≡ (a ++ (b ++ c)) ++ j
      whole a b c j = ap (λ r. a ++ r) (sym (append_assoc b c j)) ∙ sym (append_assoc a (b ++ c) j)

  data_class_given : (at : ℕ → Pos) (m : ℕ) (c : DataClassTree) (j : Tokens) → DataClassFits (suc depth) c → Ends (next j) → spec.data_class depth (located at m (data_class_text c) ++ j) ≡ Ok (place_data_class at m c, j)
  unfolding spec.data_class next after identifier name position expect expect_id sees same
  data_class_given at m c j f h =
      let first = suc (suc (suc m)) in
      let parent = section_text k.Extends word_text c.parent in
      let second = first + length parent in
      let variables = section_text k.Variables variables_text c.variables in
      let methods = section_text k.Methods methods_text c.methods in
      let third = second + length variables in
      let last = located at third methods ++ j in
      let before_last : Behind 4 (next last) = section_behind 4 n.Methods k.Methods methods_text methods_shown (omega arith) at third c.methods j (omega (arith, h)) in
      let before_variables : Behind 1 (next (located at second (variables ++ methods) ++ j)) =
      sections_behind 1 n.Variables k.Variables variables_text variables_shown (omega arith) at second c.variables methods j (omega (arith, before_last)) in
      rw (
        split_located at first parent (variables ++ methods) j,
        parent_section_complete.gives at first c.parent (located at second (variables ++ methods) ++ j) (any c.parent) before_variables,
        split_located at second variables methods j,
        variables_section_complete.gives at second c.variables last f.0.0 before_last,
        methods_section_complete.gives at third c.methods j (written_fit (suc depth) c.methods f.0.1 f.1) h,
      ) refl
    where
      any : (x : Option Id) → IfWritten Any x
      any None = tt
      any (Some y) = tt

  -- Each data class that the grammar has, of at most this nesting, is read from its text.
  pub data_class_complete : Complete data_class_text place_data_class (spec.data_class depth) (DataClassFits (suc depth)) (Ends)
  data_class_complete = record { gives = data_class_given }
