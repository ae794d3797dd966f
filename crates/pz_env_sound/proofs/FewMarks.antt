-- The text of a closed tree has few marks.
use Rattle.std.proofs.Common.{◌≡◌, ap, subst, ℕ, suc, ◌+◌, ◌*◌, ◌^◌, ◌≤◌, ◌<◌, List, [], ◌∷◌, ◌++◌, map, length, length-append, arith}
use Rattle.std.specs.List.{Contains, flat_map}
use Rattle.std.proofs.lemmas.List.{length-map}
use Rattle.pz_env_tree.specs.pz_syntax.declared.tokens.Keyword.TheVariants as k
use Rattle.pz_env_tree.specs.pz_syntax.declared.tokens.Mark.{Mark}
use Rattle.pz_env_tree.specs.pz_syntax.declared.clusters.Channel.{Channel}
use Rattle.pz_env_tree.specs.pz_syntax.declared.clusters.SystemDecl.{SystemDecl}
use Rattle.pz_env_tree.specs.pz_syntax.Marks.{section, each_text}
use Rattle.pz_env_tree.specs.pz_syntax.ClassText.{process_class_text}
use Rattle.pz_env_tree.specs.pz_syntax.ModelText.{instance_text, channel_text, system_text, decl_text, text, HasFewMarks}
use Rattle.pz_env_tree.specs.pz_syntax.Classes.{DeclTree, data_class, process_class, cluster_class, system, ModelTree}
use Rattle.pz_env_tree.specs.pz_classes_rules.SizeRules.{system_of, systems}
use Rattle.pz_env_tree.specs.pz_classes_rules.SoundSystem.{SystemFits}
use Rattle.pz_env_tree.specs.pz_env_script.declared.entry.Entry.{Entry}
use Rattle.pz_env_tree.specs.pz_env_script.Entries.{count_in}
use Rattle.pz_env_tree.specs.pz_env_rules.Environment.{Line, lines_of}
use Rattle.pz_env_tree.specs.pz_env_rules.Ends.{first_mentions}
use Rattle.pz_env_tree.specs.EnvironmentClass.{environment_class}
use Rattle.pz_env_tree.specs.ClosedTree.{environment, channel_of, closed_system, closed_tree}
use Rattle.pz_env_sound.proofs.Grown.{grown_decl}
use Rattle.pz_env_sound.proofs.Ports.{few_mentions}
use Rattle.pz_env_sound.proofs.Marks.{each_marks, section_marks, class_marks}
use Rattle.pz_env_sound.proofs.NewEnds.{from_map, new_channels}
use Rattle.pz_env_sound.proofs.Unrefused.{lines_counted}

module _ (lines : List Line) where
  channels_marks : length (each_text channel_text (new_channels lines)) ≤ 9 * length lines
  channels_marks =
      let marks = each_marks channel_text 9 (new_channels lines) (λ h has. nine h (from_map (channel_of lines) (first_mentions lines) h has)) in
      let many = length-map (first_mentions lines) (channel_of lines) in
      let few = few_mentions lines in
      omega (arith, marks, many, few)
    where
      nine : (h : Channel) → (x : Line) × Contains (first_mentions lines) x × (channel_of lines x ≡ h) → length (channel_text h) ≤ 9
      nine h (x, has, is) = subst (λ (g : Channel). length (channel_text g) ≤ 9) is (omega arith)

  system_marks : (d : SystemDecl) → length (system_text (closed_system lines d)) ≤ length (system_text d) + (5 + 9 * length lines)
  system_marks d =
      let i = section_marks instance_text k.Instances d.instances (environment ∷ []) in
      let h = section_marks channel_text k.Channels d.channels (new_channels lines) in
      let more = channels_marks in
      let was = length-append (section k.Instances (each_text instance_text) d.instances) (section k.Channels (each_text channel_text) d.channels) in
      let now =
      length-append (section k.Instances (each_text instance_text) (closed_system lines d).instances) (section k.Channels (each_text channel_text) (closed_system lines d).channels) in
      omega (arith, i, h, more, was, now)

  -- A declaration in front of others: k more where it is a system
  in_front : (was now rest all : List Mark) (n k c : ℕ) → length now ≤ length was + k → length all ≤ length rest + n * k + c
      → length (now ++ all) ≤ length (was ++ rest) + suc n * k + c
  in_front was now rest all n k c this more =
      let front = length-append was rest in
      let both = length-append now all in
      omega (arith, this, more, front, both)

  as_before : (d rest all : List Mark) (n k c : ℕ) → length all ≤ length rest + n * k + c
      → length (d ++ all) ≤ length (d ++ rest) + n * k + c
  as_before d rest all n k c more =
      let front = length-append d rest in
      let both = length-append d all in
      omega (arith, more, front, both)

  abbrev now_text : List DeclTree → List Mark
  now_text ds = each_text decl_text (map (grown_decl (closed_system lines)) ds ++ process_class (environment_class lines) ∷ [])

  decls_marks : (ds : List DeclTree)
      → length (now_text ds) ≤ length (each_text decl_text ds) + length (flat_map system_of ds) * (5 + 9 * length lines) + length (process_class_text (environment_class lines))
  decls_marks [] = let all = length-append (process_class_text (environment_class lines)) [] in omega (arith, all)
  decls_marks (data_class c ∷ ds) =
      as_before (decl_text (data_class c)) (each_text decl_text ds) (now_text ds) (length (flat_map system_of ds)) (5 + 9 * length lines) (length (process_class_text (environment_class lines))) (decls_marks ds)
  decls_marks (process_class c ∷ ds) =
      as_before (decl_text (process_class c)) (each_text decl_text ds) (now_text ds) (length (flat_map system_of ds)) (5 + 9 * length lines) (length (process_class_text (environment_class lines))) (decls_marks ds)
  decls_marks (cluster_class c ∷ ds) =
      as_before (decl_text (cluster_class c)) (each_text decl_text ds) (now_text ds) (length (flat_map system_of ds)) (5 + 9 * length lines) (length (process_class_text (environment_class lines))) (decls_marks ds)
  decls_marks (system d ∷ ds) =
      in_front (system_text d) (system_text (closed_system lines d)) (each_text decl_text ds) (now_text ds) (length (flat_map system_of ds)) (5 + 9 * length lines) (length (process_class_text (environment_class lines)))
      (system_marks d) (decls_marks ds)

pub closed_has_few : (m : ModelTree) (script : List Entry) → SystemFits m → length script ≤ 100000
    → ((x : Line) → Contains (lines_of script) x → count_in x.entry.transfer ≤ 100) → length (text m) < 2 ^ 31
    → HasFewMarks (closed_tree m script)
closed_has_few m script fits few values room =
    let marks = decls_marks (lines_of script) m.decls in
    let one : length (systems m) ≡ 1 = ap length fits.one_system.only in
    let many = lines_counted 1 script in
    let own = class_marks (lines_of script) values in
    let all : length (text (closed_tree m script)) ≤ length (text m) + 1 * (5 + 9 * length (lines_of script)) + length (process_class_text (environment_class (lines_of script))) =
    subst (λ (n : ℕ). length (text (closed_tree m script)) ≤ length (text m) + n * (5 + 9 * length (lines_of script)) + length (process_class_text (environment_class (lines_of script)))) one marks in
    omega (arith, all, many, own, few, room)
