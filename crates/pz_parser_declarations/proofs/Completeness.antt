-- Each cluster class and each system that the grammar has is read from its text, with the places of
-- the tokens, before the end or the next declaration.
use Rattle.std.proofs.Common.{◌≡◌, ◌≢◌, ℕ, suc, ◌+◌, true, List, [], ◌∷◌, ◌++◌, length, Option, Some, None, Ok, refl, ap, sym, ◌∙◌, arith}
use Rattle.pz_syntax.specs.declared.tokens.Pos.{Pos}
use Rattle.pz_syntax.specs.declared.tokens.Symbol.TheVariants as s
use Rattle.pz_syntax.specs.declared.tokens.Keyword.TheVariants as k
use Rattle.pz_syntax.specs.declared.tokens.TokenKind.TheVariants as kind
use Rattle.pz_syntax.specs.declared.exprs.Literal.{Literal}
use Rattle.pz_syntax.specs.declared.exprs.Literal.TheVariants as lit
use Rattle.pz_syntax.specs.declared.clusters.Arg.{Arg}
use Rattle.pz_syntax.specs.declared.clusters.Arg.TheVariants.{Plain, Negated, Parameter}
use Rattle.pz_syntax.specs.declared.clusters.Given.{Given}
use Rattle.pz_syntax.specs.declared.clusters.Instance.{Instance}
use Rattle.pz_syntax.specs.declared.clusters.ChannelEnd.{ChannelEnd}
use Rattle.pz_syntax.specs.declared.clusters.ChannelEnd.TheVariants.{Inner, Outer}
use Rattle.pz_syntax.specs.declared.clusters.Channel.{Channel}
use Rattle.pz_syntax.specs.declared.clusters.ClusterClass.{ClusterClass}
use Rattle.pz_syntax.specs.declared.clusters.SystemDecl.{SystemDecl}
use Rattle.pz_syntax.specs.Marks.{symbol, separated, each_text, optional as optional_text, section as section_text, names_text}
use Rattle.pz_syntax.specs.ExpressionText.{literal_kind}
use Rattle.pz_syntax.specs.ClassText.{formal_text}
use Rattle.pz_syntax.specs.ModelText.{arg_text, given_text, givens_text, instance_text, end_text, channel_text, cluster_class_text, system_text}
use Rattle.pz_syntax.specs.ModelForm.{Each, IfWritten, IsChannel, IsClusterClass, IsSystem}
use Rattle.pz_parser_cursor.specs.declared.ahead.Next.{Next}
use Rattle.pz_parser_cursor.specs.declared.ahead.Next.TheVariants as n
use Rattle.pz_parser_cursor.specs.devices.LookAhead.{next, same}
use Rattle.pz_parser_cursor.specs.devices.Input.{Tokens, after, position, identifier, name, number, literal, sees}
use Rattle.pz_parser_cursor.specs.devices.Device.{expect, expect_id, past}
use Rattle.pz_parser_cursor.specs.devices.Lists.{list_of}
use Rattle.pz_parser_cursor.specs.Places.{located, place_separated, place_optional, place_section}
use Rattle.pz_parser_cursor.proofs.Steps.{not_seen}
use Rattle.pz_parser_cursor.proofs.Reading.{Complete, split_located}
use Rattle.pz_parser_cursor.proofs.Joined.{joined_is, joined_complete, Filled, token}
use Rattle.pz_parser_cursor.proofs.Each.{each_complete}
use Rattle.pz_parser_cursor.proofs.Optional.{optional_complete, or_none_complete}
use Rattle.pz_parser_cursor.proofs.Named.{Any, Whatever, every, if_written, nonempty, comma_is, comma_seen, word_complete, optional_formal_complete}
use Rattle.pz_parser_cursor.proofs.Sections.{section_complete, ports_complete}
use Rattle.pz_parser_cursor.proofs.Orders.{Behind, Ends, behind_not, section_behind}
use Rattle.pz_parser_declarations.specs.devices.Clusters as spec
use Rattle.pz_parser_declarations.specs.ClusterPlaces.{place_arg, place_given, place_givens, place_instance, place_instances, place_end, place_channel, place_channels, place_cluster_class, place_system}

-- ---- arguments of instances

constant_given : (p : Pos) (x : Literal) (j : Tokens) → spec.arg (token (literal_kind x) p ∷ j) ≡ Ok (Plain x p, j)
unfolding spec.arg spec.constant next after position literal
constant_given p (lit.Int v) j = refl
constant_given p lit.Float j = refl
constant_given p (lit.Char c) j = refl
constant_given p (lit.Str bytes) j = refl
constant_given p lit.True j = refl
constant_given p lit.False j = refl
constant_given p lit.Nil j = refl

arg_given : (at : ℕ → Pos) (m : ℕ) (t : Arg) (j : Tokens) → spec.arg (located at m (arg_text t) ++ j) ≡ Ok (place_arg at m t, j)
unfolding spec.arg spec.negated spec.expect_number spec.parameter next after position identifier name number sees same
arg_given at m (Plain x pos) j = constant_given (at m) x j
arg_given at m (Negated x pos) j = refl
arg_given at m (Parameter x) j = refl

given_complete : Complete given_text place_given spec.given Any Whatever
unfolding spec.given next after identifier name position expect expect_id sees same
given_complete = record { gives = λ at m t j p h. rw (arg_given at (suc (suc m)) t.arg j) refl }

all_givens_complete : Complete (separated given_text s.Comma) (place_separated given_text place_given) (list_of spec.given n.Comma) (Filled Any) (λ x. x ≢ n.Comma)
all_givens_complete = record {
  gives = λ at m ts j p h.
      ap (λ r. list_of spec.given n.Comma (located at m r ++ j)) (sym (joined_is given_text s.Comma ts))
      ∙ (joined_complete given_text place_given spec.given Any n.Comma (kind.Sym s.Comma) Whatever tt comma_is comma_seen given_complete).gives at m ts j p (tt, h);
}

givens_begin : (at : ℕ → Pos) (m : ℕ) (ts : List Given) (j : Tokens) → Filled Any ts → sees n.Word (located at m (separated given_text s.Comma ts) ++ j) ≡ true
unfolding sees same next
givens_begin at m [] j p = absurd p
givens_begin at m (t ∷ ts) j p = refl

givens_complete : Complete (separated given_text s.Comma) (place_separated given_text place_given) spec.givens Any (λ x. (x ≢ n.Comma) × (x ≢ n.Word))
unfolding spec.givens
givens_complete = record {
  gives = λ at m ts j p h.
      or_none_complete (separated given_text s.Comma) (sees n.Word) (list_of spec.given n.Comma) Any refl (place_separated given_text place_given) (λ x. x ≢ n.Comma) all_givens_complete (λ at m. refl) givens_begin at m ts j (every ts) h.0 (not_seen n.Word j h.1);
}

bracketed_complete : Complete givens_text place_givens spec.bracketed_givens Any Whatever
unfolding spec.bracketed_givens next after expect sees same
bracketed_complete = record {
  gives = λ at m ts j p h.
      let r = token (kind.Sym s.RightParen) (at (suc m + length (separated given_text s.Comma ts))) ∷ j in
      rw (split_located at (suc m) (separated given_text s.Comma ts) (symbol s.RightParen ∷ []) j, givens_complete.gives at (suc m) ts r tt ((λ e. absurd cc), (λ e. absurd cc))) refl;
}

-- ---- instances

bracketed_begin : (at : ℕ → Pos) (m : ℕ) (ts : List Given) (j : Tokens) → Any ts → sees n.LeftParen (located at m (givens_text ts) ++ j) ≡ true
unfolding sees same next
bracketed_begin at m ts j p = refl

optional_givens_complete : Complete (optional_text givens_text) (place_optional place_givens) spec.optional_givens Any (λ x. x ≢ n.LeftParen)
unfolding spec.optional_givens
optional_givens_complete = record { gives = λ at m t j p h. optional_complete givens_text (sees n.LeftParen) spec.bracketed_givens Any place_givens Whatever bracketed_complete bracketed_begin at m t j (if_written t) tt (not_seen n.LeftParen j h) }

instance_complete : Complete instance_text place_instance spec.one_instance Any (λ x. x ≢ n.LeftParen)
unfolding spec.one_instance next after identifier name position expect expect_id sees same
instance_complete = record { gives = λ at m t j p h. rw (optional_givens_complete.gives at (suc (suc (suc m))) t.given j tt h) refl }

instance_begins : (at : ℕ → Pos) (m : ℕ) (t : Instance) (j : Tokens) → Any t → (sees n.Head (located at m (instance_text t) ++ j) ≡ true) × (next (located at m (instance_text t) ++ j) ≢ n.LeftParen)
unfolding sees same next
instance_begins at m t j p = (refl, λ e. absurd cc)

instances_complete : Complete (each_text instance_text) place_instances spec.instances Any (λ x. (x ≢ n.LeftParen) × (x ≢ n.Head))
unfolding spec.instances
instances_complete = record {
  gives = λ at m ts j p h.
      each_complete instance_text (sees n.Head) spec.one_instance Any place_instance (λ x. x ≢ n.LeftParen) instance_begins (λ t p. omega arith) instance_complete at m ts j (every ts) h.0 (not_seen n.Head j h.1);
}

instances_seen : (p : Pos) (i : Tokens) → sees n.Instances (token (kind.Key k.Instances) p ∷ i) ≡ true
unfolding sees same next
instances_seen p i = refl

abbrev pub StopsInstances : Next → Type 0
StopsInstances x = ((x ≢ n.LeftParen) × (x ≢ n.Head)) × (x ≢ n.Instances)

pub instances_section_complete : Complete (section_text k.Instances (each_text instance_text)) (place_section place_instances) spec.instances_section (IfWritten Any) StopsInstances
unfolding spec.instances_section
instances_section_complete = section_complete n.Instances k.Instances (each_text instance_text) spec.instances Any instances_seen place_instances (λ x. (x ≢ n.LeftParen) × (x ≢ n.Head)) instances_complete

-- ---- channels

dot_seen : (p : Pos) (i : Tokens) → sees n.Dot (token (kind.Sym s.Dot) p ∷ i) ≡ true
unfolding sees same next
dot_seen p i = refl

end_given : (at : ℕ → Pos) (m : ℕ) (t : ChannelEnd) (j : Tokens) → next j ≢ n.Dot → spec.one_end (located at m (end_text t) ++ j) ≡ Ok (place_end at m t, j)
unfolding spec.one_end past after
end_given at m (Inner part port) j h =
    let rest = token (kind.Ident port.name) (at (suc (suc m))) ∷ j in
    let dot = token (kind.Sym s.Dot) (at (suc m)) ∷ rest in
    rw (word_complete.gives at m part dot tt tt, dot_seen (at (suc m)) rest, word_complete.gives at (suc (suc m)) port j tt tt) refl
end_given at m (Outer port) j h = rw (word_complete.gives at m port j tt tt, not_seen n.Dot j h) refl

end_complete : Complete end_text place_end spec.one_end Any (λ x. x ≢ n.Dot)
end_complete = record { gives = λ at m t j p h. end_given at m t j h }

ends_complete : Complete (separated end_text s.Comma) (place_separated end_text place_end) (list_of spec.one_end n.Comma) (Filled Any) (λ x. (x ≢ n.Dot) × (x ≢ n.Comma))
ends_complete = record {
  gives = λ at m ts j p h.
      ap (λ r. list_of spec.one_end n.Comma (located at m r ++ j)) (sym (joined_is end_text s.Comma ts))
      ∙ (joined_complete end_text place_end spec.one_end Any n.Comma (kind.Sym s.Comma) (λ x. x ≢ n.Dot) (λ e. absurd cc) comma_is comma_seen end_complete).gives at m ts j p h;
}

channel_complete : Complete channel_text place_channel spec.one_channel IsChannel Whatever
unfolding spec.one_channel next after position expect sees same
channel_complete = record {
  gives = λ at m t j p h.
      let r = token (kind.Sym s.RightBrace) (at (suc m + length (separated end_text s.Comma t.ends))) ∷ j in
      rw (split_located at (suc m) (separated end_text s.Comma t.ends) (symbol s.RightBrace ∷ []) j, ends_complete.gives at (suc m) t.ends r (nonempty t.ends p) ((λ e. absurd cc), (λ e. absurd cc))) refl;
}

channel_begins : (at : ℕ → Pos) (m : ℕ) (t : Channel) (j : Tokens) → IsChannel t → (sees n.LeftBrace (located at m (channel_text t) ++ j) ≡ true) × Whatever (next (located at m (channel_text t) ++ j))
unfolding sees same next
channel_begins at m t j p = (refl, tt)

channels_complete : Complete (each_text channel_text) place_channels spec.channels (Each IsChannel) (λ x. x ≢ n.LeftBrace)
unfolding spec.channels
channels_complete = record {
  gives = λ at m ts j p h.
      each_complete channel_text (sees n.LeftBrace) spec.one_channel IsChannel place_channel Whatever channel_begins (λ t p. omega arith) channel_complete at m ts j p tt (not_seen n.LeftBrace j h);
}

channels_seen : (p : Pos) (i : Tokens) → sees n.Channels (token (kind.Key k.Channels) p ∷ i) ≡ true
unfolding sees same next
channels_seen p i = refl

pub channels_section_complete : Complete (section_text k.Channels (each_text channel_text)) (place_section place_channels) spec.channels_section (IfWritten (Each IsChannel)) (λ x. (x ≢ n.LeftBrace) × (x ≢ n.Channels))
unfolding spec.channels_section
channels_section_complete = section_complete n.Channels k.Channels (each_text channel_text) spec.channels (Each IsChannel) channels_seen place_channels (λ x. x ≢ n.LeftBrace) channels_complete

-- ---- cluster classes and the system

-- a later part ends a section
ends_channels : (x : Next) → Ends x → (x ≢ n.LeftBrace) × (x ≢ n.Channels)
ends_channels x h = (behind_not 8 x n.LeftBrace h (omega arith), behind_not 8 x n.Channels h (omega arith))

ends_instances : (x : Next) → Behind 7 x → StopsInstances x
ends_instances x h = ((behind_not 7 x n.LeftParen h (omega arith), behind_not 7 x n.Head h (omega arith)), behind_not 7 x n.Instances h (omega arith))

ends_ports : (x : Next) → Behind 6 x → ((x ≢ n.Comma) × (x ≢ n.Word)) × (x ≢ n.Ports)
ends_ports x h = ((behind_not 6 x n.Comma h (omega arith), behind_not 6 x n.Word h (omega arith)), behind_not 6 x n.Ports h (omega arith))

channels_shown : (p : Pos) (i : Tokens) → next (token (kind.Key k.Channels) p ∷ i) ≡ n.Channels
unfolding next
channels_shown p i = refl

instances_shown : (p : Pos) (i : Tokens) → next (token (kind.Key k.Instances) p ∷ i) ≡ n.Instances
unfolding next
instances_shown p i = refl

ports_shown : (p : Pos) (i : Tokens) → next (token (kind.Key k.Ports) p ∷ i) ≡ n.Ports
unfolding next
ports_shown p i = refl

system_given : (at : ℕ → Pos) (m : ℕ) (t : SystemDecl) (j : Tokens) → IsSystem t → Ends (next j) → spec.system (located at m (system_text t) ++ j) ≡ Ok (place_system at m t, j)
unfolding spec.system next after position expect sees same
system_given at m t j p h =
    let is = section_text k.Instances (each_text instance_text) t.instances in
    let cs = section_text k.Channels (each_text channel_text) t.channels in
    let b = suc m + length is in
    let rest = located at b cs ++ j in
    let behind : Behind 7 (next rest) = section_behind 7 n.Channels k.Channels (each_text channel_text) channels_shown (omega arith) at b t.channels j (omega (arith, h)) in
    rw (
      split_located at (suc m) is cs j,
      instances_section_complete.gives at (suc m) t.instances rest (if_written t.instances) (ends_instances (next rest) behind),
      channels_section_complete.gives at b t.channels j p (ends_channels (next j) h),
    ) refl

-- Each system that the grammar has is read from its text.
pub system_complete : Complete system_text place_system spec.system IsSystem Ends
system_complete = record { gives = system_given }

cluster_given : (at : ℕ → Pos) (m : ℕ) (t : ClusterClass) (j : Tokens) → IsClusterClass t → Ends (next j) → spec.cluster_class (located at m (cluster_class_text t) ++ j) ≡ Ok (place_cluster_class at m t, j)
unfolding spec.cluster_class next after position identifier name expect expect_id sees same
cluster_given at m t j p h =
    let fs = optional_text formal_text t.parameters in
    let ps = section_text k.Ports names_text t.ports in
    let is = section_text k.Instances (each_text instance_text) t.instances in
    let cs = section_text k.Channels (each_text channel_text) t.channels in
    let ports_at = suc (suc (suc m)) + length fs in
    let instances_at = ports_at + length ps in
    let channels_at = instances_at + length is in
    let third = located at channels_at cs ++ j in
    let second = located at instances_at is ++ third in
    let first = located at ports_at ps ++ second in
    let behind : Behind 7 (next third) = section_behind 7 n.Channels k.Channels (each_text channel_text) channels_shown (omega arith) at channels_at t.channels j (omega (arith, h)) in
    let before : Behind 6 (next second) = section_behind 6 n.Instances k.Instances (each_text instance_text) instances_shown (omega arith) at instances_at t.instances third (omega (arith, behind)) in
    let front : Behind 1 (next first) = section_behind 1 n.Ports k.Ports names_text ports_shown (omega arith) at ports_at t.ports second (omega (arith, before)) in
    rw (
      split_located at (suc (suc (suc m))) fs (ps ++ (is ++ cs)) j,
      split_located at ports_at ps (is ++ cs) j,
      split_located at instances_at is cs j,
      optional_formal_complete.gives at (suc (suc (suc m))) t.parameters first p.0 (behind_not 1 (next first) n.LeftParen front (omega arith)),
      ports_complete.gives at ports_at t.ports second (if_written t.ports) (ends_ports (next second) before),
      instances_section_complete.gives at instances_at t.instances third (if_written t.instances) (ends_instances (next third) behind),
      channels_section_complete.gives at channels_at t.channels j p.1 (ends_channels (next j) h),
    ) refl

-- Each cluster class that the grammar has is read from its text.
pub cluster_class_complete : Complete cluster_class_text place_cluster_class spec.cluster_class IsClusterClass Ends
cluster_class_complete = record { gives = cluster_given }
