-- The rules for declarations and models.
use Rattle.std.proofs.Common.{◌≡◌, ℕ, zero, suc, ◌+◌, ◌≤◌, ◌<◌, Bool, true, false, List, [], ◌∷◌, ◌++◌, length, Ok, refl, ap, sym, ◌∙◌, subst, arith, append_assoc}
use Rattle.pz_syntax.specs.declared.tokens.Pos.{Pos}
use Rattle.pz_syntax.specs.Marks.{each_text}
use Rattle.pz_syntax.specs.Classes.{DeclTree, data_class, process_class, cluster_class, system, ModelTree}
use Rattle.pz_syntax.specs.ModelText.{decl_text, text}
use Rattle.pz_syntax.specs.ModelForm.{Each, IsNonempty, IsDecl, IsModel}
use Rattle.pz_syntax.specs.ModelNesting.{decl_nesting, greatest, nesting}
use Rattle.pz_parser_cursor.specs.declared.ahead.Next.{Next}
use Rattle.pz_parser_cursor.specs.declared.ahead.Next.TheVariants as n
use Rattle.pz_parser_cursor.specs.devices.LookAhead.{next}
use Rattle.pz_parser_cursor.specs.devices.Input.{Tokens, marks}
use Rattle.pz_parser_cursor.specs.devices.Lists.{each_of, with_front}
use Rattle.pz_parser_cursor.specs.Places.{located, positions, place_each}
use Rattle.pz_parser_cursor.proofs.Steps.{bind_ok}
use Rattle.pz_parser_cursor.proofs.Reading.{Took, Sound, Complete, ok_took, split_located, whole_given}
use Rattle.pz_parser_cursor.proofs.Joined.{Filled, with_front_ok}
use Rattle.pz_parser_cursor.proofs.Each.{each_sound, each_complete}
use Rattle.pz_parser_cursor.proofs.Orders.{Ends}
use Rattle.pz_parser_declarations.specs.devices.DataClasses as classes
use Rattle.pz_parser_declarations.proofs.DataClasses.{data_class_sound, data_class_complete}
use Rattle.pz_parser_declarations.specs.devices.Clusters as clusters
use Rattle.pz_parser_declarations.proofs.Readings.{cluster_class_sound, system_sound}
use Rattle.pz_parser_declarations.proofs.Completeness.{cluster_class_complete, system_complete}
use Rattle.pz_parser.specs.devices.Processes as processes
use Rattle.pz_parser.specs.devices.Models as spec
use Rattle.pz_parser.specs.ModelPlaces.{place_decl, place_model}
use Rattle.pz_parser.proofs.Nested.{Within, of_each, to_each}
use Rattle.pz_parser.proofs.Joining.{then}
use Rattle.pz_parser.proofs.ProcessClasses.{process_class_sound, process_class_complete}

abbrev pub DeclFits : ℕ → DeclTree → Type 0
DeclFits = Within IsDecl decl_nesting

-- a model whose constructs nest less deep than the bound
abbrev pub ModelFits : ℕ → ModelTree → Type 0
ModelFits = Within IsModel nesting

-- the keyword of a declaration ends the one before it
decl_begins : (at : ℕ → Pos) (k : ℕ) (t : DeclTree) (j : Tokens) → (spec.begins_decl (located at k (decl_text t) ++ j) ≡ true) × Ends (next (located at k (decl_text t) ++ j))
unfolding spec.begins_decl next
decl_begins at k (data_class c) j = (refl, omega arith)
decl_begins at k (process_class c) j = (refl, omega arith)
decl_begins at k (cluster_class c) j = (refl, omega arith)
decl_begins at k (system d) j = (refl, omega arith)

decl_filled : (t : DeclTree) → 0 < length (decl_text t)
decl_filled (data_class c) = omega arith
decl_filled (process_class c) = omega arith
decl_filled (cluster_class c) = omega arith
decl_filled (system d) = omega arith

-- what may stand behind the last declaration: nothing that begins one
abbrev pub StopsDecls : Next → Type 0
StopsDecls x = x ≡ n.Other

stops_ends : (x : Next) → StopsDecls x → Ends x
stops_ends x h = subst Ends (sym h) (omega arith)

not_begun : (j : Tokens) → StopsDecls (next j) → spec.begins_decl j ≡ false
unfolding spec.begins_decl
not_begun j h = ap spec.begins_by h

module _ (depth : ℕ) where
  decl_sound : Sound decl_text (spec.decl depth) (DeclFits (suc depth))
  unfolding spec.decl
  decl_sound = record { reads = λ i y e. at i y (next i) refl e }
    where
      at : (i : Tokens) (y : DeclTree × Tokens) (x : Next) → next i ≡ x → spec.decl_by depth x i ≡ Ok y → Took decl_text (DeclFits (suc depth)) i y
      at i y n.Data h e =
          let a = bind_ok (classes.data_class depth i) _ y e in
          let t = (data_class_sound depth).reads i a.0 a.1 in
          ok_took (data_class a.0.0, a.0.1) y a.2 (record { parts = t.parts; meets = t.meets })
      at i y n.Process h e =
          let a = bind_ok (processes.process_class depth i) _ y e in
          let t = (process_class_sound depth).reads i a.0 a.1 in
          ok_took (process_class a.0.0, a.0.1) y a.2 (record { parts = t.parts; meets = t.meets })
      at i y n.Cluster h e =
          let a = bind_ok (clusters.cluster_class i) _ y e in
          let t = cluster_class_sound.reads i a.0 a.1 in
          ok_took (cluster_class a.0.0, a.0.1) y a.2 (record { parts = t.parts; meets = (t.meets, omega arith) })
      at i y n.System h e =
          let a = bind_ok (clusters.system i) _ y e in
          let t = system_sound.reads i a.0 a.1 in
          ok_took (system a.0.0, a.0.1) y a.2 (record { parts = t.parts; meets = (t.meets, omega arith) })
      at i y _ h e = absurd cc

  decl_given : (at : ℕ → Pos) (k : ℕ) (t : DeclTree) (j : Tokens) → DeclFits (suc depth) t → Ends (next j) → spec.decl depth (located at k (decl_text t) ++ j) ≡ Ok (place_decl at k t, j)
  unfolding spec.decl next
  decl_given at k (data_class c) j f h = rw ((data_class_complete depth).gives at k c j f h) refl
  decl_given at k (process_class c) j f h = rw ((process_class_complete depth).gives at k c j f h) refl
  decl_given at k (cluster_class c) j f h = rw (cluster_class_complete.gives at k c j f.0 h) refl
  decl_given at k (system d) j f h = rw (system_complete.gives at k d j f.0 h) refl

  decl_complete : Complete decl_text place_decl (spec.decl depth) (DeclFits (suc depth)) Ends
  decl_complete = record { gives = decl_given }

  -- ---- one declaration or more

  decls_sound : Sound (each_text decl_text) (spec.decls depth) (Filled (DeclFits (suc depth)))
  unfolding spec.decls spec.more_decls
  decls_sound = record {
    reads = λ i y e.
        let a = bind_ok (spec.decl depth i) _ y e in
        let first = decl_sound.reads i a.0 a.1 in
        let b = with_front_ok (a.0.0 ∷ []) (each_of spec.begins_decl (spec.decl depth) a.0.1) y a.2 in
        let rest = (each_sound decl_text spec.begins_decl (spec.decl depth) (DeclFits (suc depth)) (λ i y h e. decl_sound.reads i y e)).reads a.0.1 b.0 b.1 in
        ok_took (a.0.0 ∷ b.0.0, b.0.1) y b.2 (record { parts = then (decl_text a.0.0) (each_text decl_text b.0.0) (marks b.0.1) first.parts rest.parts; meets = (first.meets, rest.meets) });
  }

  next_ends : (at : ℕ → Pos) (k : ℕ) (ts : List DeclTree) (j : Tokens) → Ends (next j) → Ends (next (located at k (each_text decl_text ts) ++ j))
  next_ends at k [] j h = h
  next_ends at k (t ∷ ts) j h = subst (λ i. Ends (next i)) (sym (split_located at k (decl_text t) (each_text decl_text ts) j)) (decl_begins at k t (located at (k + length (decl_text t)) (each_text decl_text ts) ++ j)).1

  decls_complete : Complete (each_text decl_text) (place_each decl_text place_decl) (spec.decls depth) (Filled (DeclFits (suc depth))) StopsDecls
  unfolding spec.decls spec.more_decls
  decls_complete = record { gives = give }
    where
      give : (at : ℕ → Pos) (k : ℕ) (ts : List DeclTree) (j : Tokens) → Filled (DeclFits (suc depth)) ts → StopsDecls (next j) → spec.decls depth (located at k (each_text decl_text ts) ++ j) ≡ Ok (place_each decl_text place_decl at k ts, j)
      give at k [] j some h = absurd some
      give at k (t ∷ ts) j some h =
          let b = k + length (decl_text t) in
          let stop = stops_ends (next j) h in
          rw (
            split_located at k (decl_text t) (each_text decl_text ts) j,
            decl_given at k t (located at b (each_text decl_text ts) ++ j) some.0 (next_ends at b ts j stop),
            each_complete decl_text spec.begins_decl (spec.decl depth) (DeclFits (suc depth)) place_decl Ends (λ at k t j f. decl_begins at k t j) (λ t f. decl_filled t) decl_complete at b ts j some.1 stop (not_begun j h),
          ) refl

  -- ---- whole models

  end_ok : (i : Tokens) (y : Unit {0} × Tokens) → spec.end i ≡ Ok y → (i ≡ []) × (y.1 ≡ [])
  unfolding spec.end
  end_ok [] y e = let p : (tt, []) ≡ y = cc in (refl, sym (ap (λ q. q.1) p))
  end_ok (t ∷ ts) y e = absurd cc

  filled_of : (ts : List DeclTree) → IsNonempty ts → Each (DeclFits (suc depth)) ts → Filled (DeclFits (suc depth)) ts
  filled_of [] some f = absurd some
  filled_of (t ∷ ts) some f = f

  of_filled : (ts : List DeclTree) → Filled (DeclFits (suc depth)) ts → IsNonempty ts × Each (DeclFits (suc depth)) ts
  of_filled [] f = absurd f
  of_filled (t ∷ ts) f = (tt, f)

  -- What is read is the text of a model that the grammar has, of at most this nesting, and all of the
  -- tokens.
  pub model_sound : (i : Tokens) (y : ModelTree × Tokens) → spec.model depth i ≡ Ok y → Took text (ModelFits (suc depth)) i y × (y.1 ≡ [])
  unfolding spec.model
  model_sound i y e =
      let a = bind_ok (spec.decls depth i) _ y e in
      let ds = decls_sound.reads i a.0 a.1 in
      let b = bind_ok (spec.end a.0.1) _ y a.2 in
      let last = end_ok a.0.1 b.0 b.1 in
      let some = of_filled a.0.0 ds.meets in
      let f = of_each IsDecl decl_nesting (suc depth) a.0.0 (omega arith) some.1 in
      let whole : Took text (ModelFits (suc depth)) i y = ok_took (record { decls = a.0.0 }, b.0.1) y b.2 (record { parts = ds.parts ∙ ap (λ j. each_text decl_text a.0.0 ++ marks j) (last.0 ∙ sym last.1); meets = ((some.0, f.0), f.1) }) in
      let rest : (record { decls = a.0.0 }, b.0.1) ≡ y = cc in
      (whole, sym (ap (λ q. q.1) rest) ∙ last.1)

  -- Each model that the grammar has, of at most this nesting, is read from its text.
  pub model_complete : (i : Tokens) (t : ModelTree) → ModelFits (suc depth) t → marks i ≡ text t → spec.model depth i ≡ Ok (place_model (positions i) 0 t, [])
  unfolding spec.model spec.end next
  model_complete i t f e = rw (whole_given decls_complete i t.decls (filled_of t.decls f.0.0 (to_each IsDecl decl_nesting (suc depth) t.decls f.0.1 f.1)) e refl) refl
