-- The rules for the methods of a process class.
use Rattle.std.proofs.Common.{◌≡◌, ℕ, suc, ◌+◌, ◌≤◌, ◌<◌, true, false, List, [], ◌∷◌, ◌++◌, length, Option, Some, None, Ok, refl, ap, sym, ◌∙◌, arith}
use Rattle.pz_syntax.specs.declared.tokens.Pos.{Pos}
use Rattle.pz_syntax.specs.declared.tokens.Mark.{Mark}
use Rattle.pz_syntax.specs.Marks.{head, each_text, optional as optional_text}
use Rattle.pz_syntax.specs.Classes.{ProcessMethodTree}
use Rattle.pz_syntax.specs.StatementText.{texts}
use Rattle.pz_syntax.specs.ClassText.{formal_text, locals_text, process_method_text}
use Rattle.pz_syntax.specs.ModelForm.{Each, IsProcessMethod}
use Rattle.pz_syntax.specs.ModelNesting.{process_method_nesting}
use Rattle.pz_parser_cursor.specs.declared.ahead.Next.{Next}
use Rattle.pz_parser_cursor.specs.declared.ahead.Next.TheVariants as n
use Rattle.pz_parser_cursor.specs.devices.LookAhead.{next, same}
use Rattle.pz_parser_cursor.specs.devices.Input.{Tokens, marks, after, identifier, name, position, sees}
use Rattle.pz_parser_cursor.specs.devices.Names as names
use Rattle.pz_parser_cursor.specs.Places.{located}
use Rattle.pz_parser_cursor.proofs.Steps.{bind_ok, sees_is, not_seen}
use Rattle.pz_parser_cursor.proofs.Words.{head_is}
use Rattle.pz_parser_cursor.proofs.Reading.{Took, Sound, Complete, ok_took, split_located}
use Rattle.pz_parser_cursor.proofs.Each.{each_sound, each_complete}
use Rattle.pz_parser_cursor.proofs.Named.{formal_sound, formal_complete, optional_locals_sound, optional_locals_complete}
use Rattle.pz_parser_cursor.proofs.Orders.{Behind, Ends, behind_not}
use Rattle.pz_parser_statements.specs.devices.Statements.{stmts}
use Rattle.pz_parser_statements.proofs.Ends.{EndsBody, ends_body}
use Rattle.pz_parser_statements.proofs.Beginnings.{stmts_begin}
use Rattle.pz_parser_statements.proofs.Readings.{stmts_sound}
use Rattle.pz_parser_statements.proofs.Completeness.{stmts_complete}
use Rattle.pz_parser.specs.devices.Processes as spec
use Rattle.pz_parser.specs.ProcessPlaces.{place_process_method, place_process_methods}
use Rattle.pz_parser.proofs.Nested.{Within}
use Rattle.pz_parser.proofs.Joining.{then}

-- a method whose constructs nest less deep than the bound
abbrev pub ProcessMethodFits : ℕ → ProcessMethodTree → Type 0
ProcessMethodFits = Within IsProcessMethod process_method_nesting

-- what stands behind a declaration ends a body
end_stops : (x : Next) → Ends x → EndsBody x
end_stops n.Other h = ends_body n.Other refl
end_stops n.Data h = ends_body n.Data refl
end_stops n.Process h = ends_body n.Process refl
end_stops n.Cluster h = ends_body n.Cluster refl
end_stops n.System h = ends_body n.System refl
end_stops _ h = absurd (omega (arith, h))

module _ (depth : ℕ) where
  method_took : (i : Tokens) (y : ProcessMethodTree × Tokens) → sees n.Head i ≡ true → spec.process_method depth i ≡ Ok y → Took process_method_text (ProcessMethodFits (suc depth)) i y
  unfolding spec.process_method
  method_took i y h e =
      let a = bind_ok (names.formal (after i)) _ y e in
      let inputs = formal_sound.reads (after i) a.0 a.1 in
      let b = bind_ok (names.formal a.0.1) _ y a.2 in
      let outputs = formal_sound.reads a.0.1 b.0 b.1 in
      let c = bind_ok (names.optional_locals b.0.1) _ y b.2 in
      let locals = optional_locals_sound.reads b.0.1 c.0 c.1 in
      let d = bind_ok (stmts depth c.0.1) _ y c.2 in
      let body = (stmts_sound depth).reads c.0.1 d.0 d.1 in
      let os = formal_text b.0.0 in
      let ls = optional_text locals_text c.0.0 in
      let ts = texts d.0.0 in
      let j = marks d.0.1 in
      ok_took (record { name = identifier i; inputs = a.0.0; outputs = b.0.0; locals = c.0.0; body = d.0.0 }, d.0.1) y d.2 (record {
        parts = head_is i (sees_is n.Head i h) ∙ ap (λ r. head (identifier i) ∷ r) (then (formal_text a.0.0) (os ++ (ls ++ ts)) j inputs.parts (then os (ls ++ ts) j outputs.parts (then ls ts j locals.parts body.parts)));
        meets = ((inputs.meets, outputs.meets, locals.meets, body.meets.0), omega (arith, body.meets.1));
      })

  pub process_methods_sound : Sound (each_text process_method_text) (spec.process_methods depth) (Each (ProcessMethodFits (suc depth)))
  unfolding spec.process_methods
  process_methods_sound = each_sound process_method_text (sees n.Head) (spec.process_method depth) (ProcessMethodFits (suc depth)) method_took

  method_given : (at : ℕ → Pos) (k : ℕ) (m : ProcessMethodTree) (j : Tokens) → ProcessMethodFits (suc depth) m → EndsBody (next j) → spec.process_method depth (located at k (process_method_text m) ++ j) ≡ Ok (place_process_method at k m, j)
  unfolding spec.process_method next after identifier name position
  method_given at k m j f stop =
      let is = formal_text m.inputs in
      let os = formal_text m.outputs in
      let ls = optional_text locals_text m.locals in
      let ts = texts m.body in
      let outputs_at = suc k + length is in
      let locals_at = outputs_at + length os in
      let body_at = locals_at + length ls in
      let fourth = located at body_at ts ++ j in
      let third = located at locals_at ls ++ fourth in
      let second = located at outputs_at os ++ third in
      rw (
        split_located at (suc k) is (os ++ (ls ++ ts)) j,
        split_located at outputs_at os (ls ++ ts) j,
        split_located at locals_at ls ts j,
        formal_complete.gives at (suc k) m.inputs second f.0.0 tt,
        formal_complete.gives at outputs_at m.outputs third f.0.1 tt,
        optional_locals_complete.gives at locals_at m.locals fourth f.0.2 (stmts_begin at body_at m.body j f.0.3),
        (stmts_complete depth).gives at body_at m.body j (f.0.3, omega (arith, f.1)) stop,
      ) refl

  method_complete : Complete process_method_text place_process_method (spec.process_method depth) (ProcessMethodFits (suc depth)) EndsBody
  method_complete = record { gives = method_given }

  method_begins : (at : ℕ → Pos) (k : ℕ) (m : ProcessMethodTree) (j : Tokens) → ProcessMethodFits (suc depth) m → (sees n.Head (located at k (process_method_text m) ++ j) ≡ true) × EndsBody (next (located at k (process_method_text m) ++ j))
  unfolding sees same next
  method_begins at k m j f = (refl, ends_body n.Head refl)

  pub process_methods_complete : Complete (each_text process_method_text) place_process_methods (spec.process_methods depth) (Each (ProcessMethodFits (suc depth))) Ends
  unfolding spec.process_methods
  process_methods_complete = record {
    gives = λ at k ms j f h.
        each_complete process_method_text (sees n.Head) (spec.process_method depth) (ProcessMethodFits (suc depth)) place_process_method EndsBody method_begins (λ m f. omega arith) method_complete at k ms j f (end_stops (next j) h) (not_seen n.Head j (behind_not 8 (next j) n.Head h (omega arith)));
  }
