-- The rule for process classes.
use Rattle.std.proofs.Common.{◌≡◌, ℕ, suc, ◌+◌, ◌≤◌, ◌<◌, true, List, [], ◌∷◌, ◌++◌, length, Option, Some, None, Ok, refl, ap, sym, ◌∙◌, arith}
use Rattle.std.specs.Prelude.{max}
use Rattle.pz_syntax.specs.declared.tokens.Pos.{Pos}
use Rattle.pz_syntax.specs.declared.tokens.Keyword.TheVariants as k
use Rattle.pz_syntax.specs.declared.tokens.TokenKind.TheVariants as kind
use Rattle.pz_syntax.specs.declared.tokens.Mark.{Mark}
use Rattle.pz_syntax.specs.Marks.{keyword, word, word_text, names_text, each_text, optional as optional_text, section as section_text}
use Rattle.pz_syntax.specs.Classes.{StartTree, ProcessMethodTree, ProcessClassTree}
use Rattle.pz_syntax.specs.ClassText.{formal_text, variables_text, messages_text, start_text, process_method_text, process_class_text}
use Rattle.pz_syntax.specs.ModelForm.{Each, IfWritten, IsStart, IsProcessMethod, IsProcessClass}
use Rattle.pz_syntax.specs.ModelNesting.{greatest, optional_nesting, start_nesting, process_method_nesting, process_class_nesting}
use Rattle.pz_parser_cursor.specs.declared.ahead.Next.TheVariants as n
use Rattle.pz_parser_cursor.specs.devices.LookAhead.{next, same}
use Rattle.pz_parser_cursor.specs.devices.Input.{Tokens, marks, after, identifier, name, position, sees}
use Rattle.pz_parser_cursor.specs.devices.Device.{expect, expect_id}
use Rattle.pz_parser_cursor.specs.devices.Names as names
use Rattle.pz_parser_cursor.specs.Places.{located, place_section}
use Rattle.pz_parser_cursor.proofs.Steps.{bind_ok, expected}
use Rattle.pz_parser_cursor.proofs.Reading.{Sound, Complete, ok_took, split_located}
use Rattle.pz_parser_cursor.proofs.Joined.{token}
use Rattle.pz_parser_cursor.proofs.Named.{Any, if_written, word_sound, optional_formal_sound, optional_formal_complete}
use Rattle.pz_parser_cursor.proofs.Orders.{Behind, Ends, behind_not, section_behind}
use Rattle.pz_parser_cursor.proofs.Sections.{section_sound, section_complete, ports_sound}
use Rattle.pz_parser_declarations.specs.devices.Sections.{parent_section, messages_section, variables_section, start_section}
use Rattle.pz_parser_declarations.proofs.SectionRules.{parent_section_sound, parent_section_complete, ports_section_complete, variables_section_sound, variables_section_complete, start_section_sound, start_section_complete}
use Rattle.pz_parser_declarations.proofs.MessageRules.{messages_section_sound, messages_section_complete}
use Rattle.pz_parser.specs.devices.Processes as spec
use Rattle.pz_parser.specs.ProcessPlaces.{place_process_methods, place_process_class}
use Rattle.pz_parser.proofs.Nested.{Within, of_written, to_written, of_optional, to_optional}
use Rattle.pz_parser.proofs.Joining.{then}
use Rattle.pz_parser.proofs.ProcessMethods.{ProcessMethodFits, process_methods_sound, process_methods_complete}

-- a process class whose constructs nest less deep than the bound
abbrev pub ProcessClassFits : ℕ → ProcessClassTree → Type 0
ProcessClassFits = Within IsProcessClass process_class_nesting

abbrev methods_text : List ProcessMethodTree → List Mark
methods_text = each_text process_method_text

extends_shown : (p : Pos) (i : Tokens) → next (token (kind.Key k.Extends) p ∷ i) ≡ n.Extends
unfolding next
extends_shown p i = refl

ports_shown : (p : Pos) (i : Tokens) → next (token (kind.Key k.Ports) p ∷ i) ≡ n.Ports
unfolding next
ports_shown p i = refl

messages_shown : (p : Pos) (i : Tokens) → next (token (kind.Key k.Messages) p ∷ i) ≡ n.Messages
unfolding next
messages_shown p i = refl

variables_shown : (p : Pos) (i : Tokens) → next (token (kind.Key k.Variables) p ∷ i) ≡ n.Variables
unfolding next
variables_shown p i = refl

init_shown : (p : Pos) (i : Tokens) → next (token (kind.Key k.Init) p ∷ i) ≡ n.Init
unfolding next
init_shown p i = refl

methods_shown : (p : Pos) (i : Tokens) → next (token (kind.Key k.Methods) p ∷ i) ≡ n.Methods
unfolding next
methods_shown p i = refl

methods_seen : (p : Pos) (i : Tokens) → sees n.Methods (token (kind.Key k.Methods) p ∷ i) ≡ true
unfolding sees same next
methods_seen p i = refl

both : (a b bound : ℕ) → a < bound → b < bound → max a b < bound
both a b bound p q = omega (arith, p, q)

-- the parts of a class in the order of its text
assembled : (x y z : Mark) (fs es ps os vs ss ms m0 m1 m2 m3 m4 m5 m6 m7 m8 m9 j : List Mark) → m0 ≡ x ∷ m1 → m1 ≡ y ∷ m2 → m2 ≡ z ∷ m3 → m3 ≡ fs ++ m4 → m4 ≡ es ++ m5 → m5 ≡ ps ++ m6 → m6 ≡ os ++ m7 → m7 ≡ vs ++ m8 → m8 ≡ ss ++ m9 → m9 ≡ ms ++ j
    → m0 ≡ x ∷ y ∷ z ∷ ((fs ++ (es ++ (ps ++ (os ++ (vs ++ (ss ++ ms)))))) ++ j)
assembled x y z fs es ps os vs ss ms m0 m1 m2 m3 m4 m5 m6 m7 m8 m9 j e0 e1 e2 e3 e4 e5 e6 e7 e8 e9 =
    let r8 : m8 ≡ (ss ++ ms) ++ j = then ss ms j e8 e9 in
    let r7 : m7 ≡ (vs ++ (ss ++ ms)) ++ j = then vs (ss ++ ms) j e7 r8 in
    let r6 : m6 ≡ (os ++ (vs ++ (ss ++ ms))) ++ j = then os (vs ++ (ss ++ ms)) j e6 r7 in
    let r5 : m5 ≡ (ps ++ (os ++ (vs ++ (ss ++ ms)))) ++ j = then ps (os ++ (vs ++ (ss ++ ms))) j e5 r6 in
    let r4 : m4 ≡ (es ++ (ps ++ (os ++ (vs ++ (ss ++ ms))))) ++ j = then es (ps ++ (os ++ (vs ++ (ss ++ ms)))) j e4 r5 in
    let r3 : m3 ≡ (fs ++ (es ++ (ps ++ (os ++ (vs ++ (ss ++ ms)))))) ++ j = then fs (es ++ (ps ++ (os ++ (vs ++ (ss ++ ms))))) j e3 r4 in
    e0 ∙ ap (λ r. x ∷ r) (e1 ∙ ap (λ r. y ∷ r) (e2 ∙ ap (λ r. z ∷ r) r3))

module _ (depth : ℕ) where
  room : 0 < suc depth
  room = omega arith

  methods_section_sound : Sound (section_text k.Methods methods_text) (spec.process_methods_section depth) (IfWritten (Each (ProcessMethodFits (suc depth))))
  unfolding spec.process_methods_section
  methods_section_sound = section_sound n.Methods k.Methods methods_text (spec.process_methods depth) (Each (ProcessMethodFits (suc depth))) refl (process_methods_sound depth)

  methods_section_complete : Complete (section_text k.Methods methods_text) (place_section place_process_methods) (spec.process_methods_section depth) (IfWritten (Each (ProcessMethodFits (suc depth)))) Ends
  unfolding spec.process_methods_section
  methods_section_complete = record {
    gives = λ at m t j p h.
        (section_complete n.Methods k.Methods methods_text (spec.process_methods depth) (Each (ProcessMethodFits (suc depth))) methods_seen place_process_methods Ends (process_methods_complete depth)).gives at m t j p (h, behind_not 8 (next j) n.Methods h (omega arith));
  }

  -- What is read is the text of a process class that the grammar has, of at most this nesting.
  pub process_class_sound : Sound process_class_text (spec.process_class depth) (ProcessClassFits (suc depth))
  unfolding spec.process_class
  process_class_sound = record {
    reads = λ i y e.
        let a = bind_ok (expect n.Process i) _ y e in
        let first = expected n.Process (kind.Key k.Process) i a.0 refl a.1 in
        let b = bind_ok (expect n.Class a.0.1) _ y a.2 in
        let second = expected n.Class (kind.Key k.Class) a.0.1 b.0 refl b.1 in
        let c = bind_ok (names.word b.0.1) _ y b.2 in
        let called = word_sound.reads b.0.1 c.0 c.1 in
        let d = bind_ok (names.optional_formal c.0.1) _ y c.2 in
        let formal = optional_formal_sound.reads c.0.1 d.0 d.1 in
        let f = bind_ok (parent_section d.0.1) _ y d.2 in
        let parent = parent_section_sound.reads d.0.1 f.0 f.1 in
        let g = bind_ok (names.ports f.0.1) _ y f.2 in
        let ports = ports_sound.reads f.0.1 g.0 g.1 in
        let o = bind_ok (messages_section g.0.1) _ y g.2 in
        let messages = messages_section_sound.reads g.0.1 o.0 o.1 in
        let p = bind_ok (variables_section o.0.1) _ y o.2 in
        let variables = variables_section_sound.reads o.0.1 p.0 p.1 in
        let q = bind_ok (start_section depth p.0.1) _ y p.2 in
        let start = (start_section_sound depth).reads p.0.1 q.0 q.1 in
        let r = bind_ok (spec.process_methods_section depth q.0.1) _ y q.2 in
        let methods = methods_section_sound.reads q.0.1 r.0 r.1 in
        let starts = of_optional IsStart start_nesting (suc depth) q.0.0 room start.meets in
        let bodies = of_written IsProcessMethod process_method_nesting (suc depth) r.0.0 room methods.meets in
        let fs = optional_text formal_text d.0.0 in
        let es = section_text k.Extends word_text f.0.0 in
        let ps = section_text k.Ports names_text g.0.0 in
        let os = section_text k.Messages messages_text o.0.0 in
        let vs = section_text k.Variables variables_text p.0.0 in
        let ss = section_text k.Init start_text q.0.0 in
        let ms = section_text k.Methods methods_text r.0.0 in
        let j = marks r.0.1 in
        ok_took (record { name = c.0.0; parameters = d.0.0; parent = f.0.0; ports = g.0.0; messages = o.0.0; variables = p.0.0; start = q.0.0; methods = r.0.0 }, r.0.1) y r.2 (record {
          parts = assembled (keyword k.Process) (keyword k.Class) (word c.0.0) fs es ps os vs ss ms (marks i) (marks a.0.1) (marks b.0.1) (marks c.0.1) (marks d.0.1) (marks f.0.1) (marks g.0.1) (marks o.0.1) (marks p.0.1) (marks q.0.1) j
              first second called.parts formal.parts parent.parts ports.parts messages.parts variables.parts start.parts methods.parts;
          meets = ((formal.meets, variables.meets, starts.0, bodies.0), both (optional_nesting start_nesting q.0.0) (optional_nesting (greatest process_method_nesting) r.0.0) (suc depth) starts.1 bodies.1);
        });
  }

  process_class_given : (at : ℕ → Pos) (m : ℕ) (c : ProcessClassTree) (j : Tokens) → ProcessClassFits (suc depth) c → Ends (next j) → spec.process_class depth (located at m (process_class_text c) ++ j) ≡ Ok (place_process_class at m c, j)
  unfolding spec.process_class next after identifier name position expect expect_id sees same
  process_class_given at m c j f h =
      let fs = optional_text formal_text c.parameters in
      let es = section_text k.Extends word_text c.parent in
      let ps = section_text k.Ports names_text c.ports in
      let os = section_text k.Messages messages_text c.messages in
      let vs = section_text k.Variables variables_text c.variables in
      let ss = section_text k.Init start_text c.start in
      let ms = section_text k.Methods methods_text c.methods in
      let parent_at = suc (suc (suc m)) + length fs in
      let ports_at = parent_at + length es in
      let messages_at = ports_at + length ps in
      let variables_at = messages_at + length os in
      let start_at = variables_at + length vs in
      let methods_at = start_at + length ss in
      let sixth = located at methods_at ms ++ j in
      let fifth = located at start_at ss ++ sixth in
      let fourth = located at variables_at vs ++ fifth in
      let third = located at messages_at os ++ fourth in
      let second = located at ports_at ps ++ third in
      let first = located at parent_at es ++ second in
      let behind_start : Behind 5 (next sixth) = section_behind 5 n.Methods k.Methods methods_text methods_shown (omega arith) at methods_at c.methods j (omega (arith, h)) in
      let behind_variables : Behind 4 (next fifth) = section_behind 4 n.Init k.Init start_text init_shown (omega arith) at start_at c.start sixth (omega (arith, behind_start)) in
      let behind_messages : Behind 3 (next fourth) = section_behind 3 n.Variables k.Variables variables_text variables_shown (omega arith) at variables_at c.variables fifth (omega (arith, behind_variables)) in
      let behind_ports : Behind 2 (next third) = section_behind 2 n.Messages k.Messages messages_text messages_shown (omega arith) at messages_at c.messages fourth (omega (arith, behind_messages)) in
      let behind_parent : Behind 1 (next second) = section_behind 1 n.Ports k.Ports names_text ports_shown (omega arith) at ports_at c.ports third (omega (arith, behind_ports)) in
      let behind_formal : Behind 0 (next first) = section_behind 0 n.Extends k.Extends word_text extends_shown (omega arith) at parent_at c.parent second (omega (arith, behind_parent)) in
      rw (
        split_located at (suc (suc (suc m))) fs (es ++ (ps ++ (os ++ (vs ++ (ss ++ ms))))) j,
        split_located at parent_at es (ps ++ (os ++ (vs ++ (ss ++ ms)))) j,
        split_located at ports_at ps (os ++ (vs ++ (ss ++ ms))) j,
        split_located at messages_at os (vs ++ (ss ++ ms)) j,
        split_located at variables_at vs (ss ++ ms) j,
        split_located at start_at ss ms j,
        optional_formal_complete.gives at (suc (suc (suc m))) c.parameters first f.0.0 (behind_not 0 (next first) n.LeftParen behind_formal (omega arith)),
        parent_section_complete.gives at parent_at c.parent second (if_written c.parent) behind_parent,
        ports_section_complete.gives at ports_at c.ports third (if_written c.ports) behind_ports,
        messages_section_complete.gives at messages_at c.messages fourth (if_written c.messages) behind_messages,
        variables_section_complete.gives at variables_at c.variables fifth f.0.1 behind_variables,
        (start_section_complete depth).gives at start_at c.start sixth (to_optional IsStart start_nesting (suc depth) c.start f.0.2 (omega (arith, f.1))) behind_start,
        methods_section_complete.gives at methods_at c.methods j (to_written IsProcessMethod process_method_nesting (suc depth) c.methods f.0.3 (omega (arith, f.1))) h,
      ) refl

  -- Each process class that the grammar has, of at most this nesting, is read from its text.
  pub process_class_complete : Complete process_class_text place_process_class (spec.process_class depth) (ProcessClassFits (suc depth)) Ends
  process_class_complete = record { gives = process_class_given }
