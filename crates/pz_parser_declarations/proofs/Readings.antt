-- What each rule reads is the text of what the grammar has.
use Rattle.std.proofs.Common.{◌≡◌, ℤ, Bool, true, false, cond, List, [], ◌∷◌, ◌++◌, length, Ok, Err, refl, ap, sym, ◌∙◌, append_assoc}
use Rattle.pz_syntax.specs.declared.tokens.Symbol.TheVariants as s
use Rattle.pz_syntax.specs.declared.tokens.Keyword.TheVariants as k
use Rattle.pz_syntax.specs.declared.tokens.TokenKind.TheVariants as kind
use Rattle.pz_syntax.specs.declared.tokens.Mark.{Mark}
use Rattle.pz_syntax.specs.declared.names.Id.{Id}
use Rattle.pz_syntax.specs.declared.clusters.Arg.{Arg}
use Rattle.pz_syntax.specs.declared.clusters.Arg.TheVariants.{Plain, Negated, Parameter}
use Rattle.pz_syntax.specs.declared.clusters.Instance.{Instance}
use Rattle.pz_syntax.specs.declared.clusters.ChannelEnd.{ChannelEnd}
use Rattle.pz_syntax.specs.declared.clusters.ChannelEnd.TheVariants.{Inner, Outer}
use Rattle.pz_syntax.specs.declared.clusters.Channel.{Channel}
use Rattle.pz_syntax.specs.Marks.{mark, symbol, keyword, word, head, separated, each_text, optional as optional_text, section as section_text, names_text}
use Rattle.pz_syntax.specs.ExpressionText.{literal_kind}
use Rattle.pz_syntax.specs.ClassText.{formal_text}
use Rattle.pz_syntax.specs.ModelText.{arg_text, given_text, givens_text, instance_text, end_text, channel_text, cluster_class_text, system_text}
use Rattle.pz_syntax.specs.ModelForm.{Each, IfWritten, IsChannel, IsClusterClass, IsSystem}
use Rattle.pz_parser_cursor.specs.declared.ahead.Next.{Next}
use Rattle.pz_parser_cursor.specs.declared.ahead.Next.TheVariants as n
use Rattle.pz_parser_cursor.specs.declared.refusal.Refusal.TheVariants.{Syntax}
use Rattle.pz_parser_cursor.specs.devices.LookAhead.{next}
use Rattle.pz_parser_cursor.specs.devices.Input.{Tokens, marks, after, position, identifier, number, literal, sees}
use Rattle.pz_parser_cursor.specs.devices.Device.{◌<$>◌, pure, expect, past}
use Rattle.pz_parser_cursor.specs.devices.Lists.{list_of}
use Rattle.pz_parser_cursor.specs.devices.Names as names
use Rattle.pz_parser_cursor.proofs.Shown.{token_of}
use Rattle.pz_parser_cursor.proofs.Steps.{bind_ok, takes, sees_is, expected}
use Rattle.pz_parser_cursor.proofs.Words.{word_is, head_is, number_is, literal_is, int_literal_is}
use Rattle.pz_parser_cursor.proofs.Loops.{past_is, past_not}
use Rattle.pz_parser_cursor.proofs.Reading.{Took, Sound, ok_took, done}
use Rattle.pz_parser_cursor.proofs.Joined.{joined_is, joined_sound, Filled}
use Rattle.pz_parser_cursor.proofs.Each.{each_sound}
use Rattle.pz_parser_cursor.proofs.Optional.{optional_sound, or_none_sound}
use Rattle.pz_parser_cursor.proofs.Named.{Any, filled, word_sound, optional_formal_sound}
use Rattle.pz_parser_cursor.proofs.Sections.{section_sound, ports_sound}
use Rattle.pz_parser_declarations.specs.devices.Clusters as spec

-- without a condition
loosen : {A : Type 0} {text : A → List Mark} {P : A → Type 0} {i : Tokens} {y : A × Tokens} → Took text P i y → Took text Any i y
loosen t = record { parts = t.parts; meets = tt }

-- ---- arguments of instances

number_sound : Sound (λ x. mark (kind.Int x) ∷ []) spec.expect_number Any
unfolding spec.expect_number
number_sound = record { reads = λ i y e. by i y (sees n.Int i) refl e }
  where
    by : (i : Tokens) (y : ℤ × Tokens) (b : Bool) → sees n.Int i ≡ b → cond b (done (number i, after i)) (Err (Syntax (length i))) ≡ Ok y → Took (λ x. mark (kind.Int x) ∷ []) Any i y
    by i y true h e = ok_took (number i, after i) y e (record { parts = number_is i (sees_is n.Int i h); meets = tt })
    by i y false h e = absurd cc

constant_took : (i : Tokens) (y : Arg × Tokens) → marks i ≡ mark (literal_kind (literal i)) ∷ marks (after i) → spec.constant i ≡ Ok y → Took arg_text Any i y
unfolding spec.constant
constant_took i y m e = ok_took (Plain (literal i) (position i), after i) y e (record { parts = m; meets = tt })

negated_took : (i : Tokens) (y : Arg × Tokens) → next i ≡ n.Minus → spec.negated i ≡ Ok y → Took arg_text Any i y
unfolding spec.negated
negated_took i y h e =
    let a = bind_ok (spec.expect_number (after i)) _ y e in
    let x = number_sound.reads (after i) a.0 a.1 in
    ok_took (Negated a.0.0 (position i), a.0.1) y a.2 (record { parts = takes (kind.Sym s.Minus) i (ap token_of h) ∙ ap (λ r. symbol s.Minus ∷ r) x.parts; meets = tt })

parameter_took : (i : Tokens) (y : Arg × Tokens) → next i ≡ n.Word → spec.parameter i ≡ Ok y → Took arg_text Any i y
unfolding spec.parameter
parameter_took i y h e = ok_took (Parameter (identifier i), after i) y e (record { parts = word_is i h; meets = tt })

arg_sound : Sound arg_text spec.arg Any
unfolding spec.arg
arg_sound = record { reads = λ i y e. at i y (next i) refl e }
  where
    at : (i : Tokens) (y : Arg × Tokens) (x : Next) → next i ≡ x → spec.arg_by x i ≡ Ok y → Took arg_text Any i y
    at i y n.Int h e = constant_took i y (int_literal_is i h) e
    at i y n.Literal h e = constant_took i y (literal_is i h) e
    at i y n.Minus h e = negated_took i y h e
    at i y n.Word h e = parameter_took i y h e
    at i y _ h e = absurd cc

given_sound : Sound given_text spec.given Any
unfolding spec.given
given_sound = record {
  reads = λ i y e.
      let a = bind_ok (names.word i) _ y e in
      let name = word_sound.reads i a.0 a.1 in
      let b = bind_ok (expect n.Assign a.0.1) _ y a.2 in
      let assign = expected n.Assign (kind.Sym s.Assign) a.0.1 b.0 refl b.1 in
      let c = bind_ok (spec.arg b.0.1) _ y b.2 in
      let arg = arg_sound.reads b.0.1 c.0 c.1 in
      ok_took (record { name = a.0.0; arg = c.0.0 }, c.0.1) y c.2 (record { parts = name.parts ∙ ap (λ r. word a.0.0 ∷ r) (assign ∙ ap (λ r. symbol s.Assign ∷ r) arg.parts); meets = tt });
}

all_givens_sound : Sound (separated given_text s.Comma) (list_of spec.given n.Comma) (Filled Any)
all_givens_sound = record {
  reads = λ i y e.
      let t = (joined_sound given_text spec.given Any n.Comma (kind.Sym s.Comma) refl given_sound).reads i y e in
      record { parts = t.parts ∙ ap (λ r. r ++ marks y.1) (joined_is given_text s.Comma y.0); meets = t.meets };
}

givens_sound : Sound (separated given_text s.Comma) spec.givens (Each Any)
unfolding spec.givens
givens_sound = or_none_sound (separated given_text s.Comma) (sees n.Word) (list_of spec.given n.Comma) Any refl all_givens_sound

bracketed_sound : Sound givens_text spec.bracketed_givens Any
unfolding spec.bracketed_givens
bracketed_sound = record {
  reads = λ i y e.
      let a = bind_ok (expect n.LeftParen i) _ y e in
      let left = expected n.LeftParen (kind.Sym s.LeftParen) i a.0 refl a.1 in
      let b = bind_ok (spec.givens a.0.1) _ y a.2 in
      let gs = givens_sound.reads a.0.1 b.0 b.1 in
      let c = bind_ok (expect n.RightParen b.0.1) _ y b.2 in
      let right = expected n.RightParen (kind.Sym s.RightParen) b.0.1 c.0 refl c.1 in
      let text = separated given_text s.Comma b.0.0 in
      ok_took (b.0.0, c.0.1) y c.2 (record { parts = left ∙ ap (λ r. symbol s.LeftParen ∷ r) (gs.parts ∙ ap (λ r. text ++ r) right ∙ sym (append_assoc text (symbol s.RightParen ∷ []) (marks c.0.1))); meets = tt });
}

-- ---- instances

optional_givens_sound : Sound (optional_text givens_text) spec.optional_givens (IfWritten Any)
unfolding spec.optional_givens
optional_givens_sound = optional_sound givens_text (sees n.LeftParen) spec.bracketed_givens Any bracketed_sound

instance_took : (i : Tokens) (y : Instance × Tokens) → sees n.Head i ≡ true → spec.one_instance i ≡ Ok y → Took instance_text Any i y
unfolding spec.one_instance
instance_took i y h e =
    let a = bind_ok (expect n.Colon (after i)) _ y e in
    let colon = expected n.Colon (kind.Sym s.Colon) (after i) a.0 refl a.1 in
    let b = bind_ok (names.word a.0.1) _ y a.2 in
    let class = word_sound.reads a.0.1 b.0 b.1 in
    let c = bind_ok (spec.optional_givens b.0.1) _ y b.2 in
    let gs = optional_givens_sound.reads b.0.1 c.0 c.1 in
    ok_took (record { name = identifier i; class = b.0.0; given = c.0.0 }, c.0.1) y c.2 (record {
      parts = head_is i (sees_is n.Head i h) ∙ ap (λ r. head (identifier i) ∷ r) (colon ∙ ap (λ r. symbol s.Colon ∷ r) (class.parts ∙ ap (λ r. word b.0.0 ∷ r) gs.parts));
      meets = tt;
    })

instances_sound : Sound (each_text instance_text) spec.instances Any
unfolding spec.instances
instances_sound = record { reads = λ i y e. loosen ((each_sound instance_text (sees n.Head) spec.one_instance Any instance_took).reads i y e) }

pub instances_section_sound : Sound (section_text k.Instances (each_text instance_text)) spec.instances_section (IfWritten Any)
unfolding spec.instances_section
instances_section_sound = section_sound n.Instances k.Instances (each_text instance_text) spec.instances Any refl instances_sound

-- ---- channels

end_sound : Sound end_text spec.one_end Any
unfolding spec.one_end
end_sound = record {
  reads = λ i y e.
      let a = bind_ok (names.word i) _ y e in
      let name = word_sound.reads i a.0 a.1 in
      by i y a.0 name.parts (sees n.Dot a.0.1) refl a.2;
}
  where
    by : (i : Tokens) (y : ChannelEnd × Tokens) (a : Id × Tokens) → marks i ≡ word a.0 ∷ marks a.1 → (b : Bool) → sees n.Dot a.1 ≡ b → cond b (Inner a.0 <$> names.word) (pure (Outer a.0)) (past n.Dot a.1) ≡ Ok y → Took end_text Any i y
    by i y a m true h e =
        let b = bind_ok (names.word (past n.Dot a.1)) _ y e in
        let port = word_sound.reads (past n.Dot a.1) b.0 b.1 in
        let dot = takes (kind.Sym s.Dot) a.1 (ap token_of (sees_is n.Dot a.1 h)) in
        ok_took (Inner a.0 b.0.0, b.0.1) y b.2 (record { parts = m ∙ ap (λ r. word a.0 ∷ r) (dot ∙ ap (λ r. symbol s.Dot ∷ r) (ap marks (sym (past_is n.Dot a.1 h)) ∙ port.parts)); meets = tt })
    by i y a m false h e = ok_took (Outer a.0, past n.Dot a.1) y e (record { parts = m ∙ ap (λ j. word a.0 ∷ marks j) (sym (past_not n.Dot a.1 h)); meets = tt })

ends_sound : Sound (separated end_text s.Comma) (list_of spec.one_end n.Comma) (Filled Any)
ends_sound = record {
  reads = λ i y e.
      let t = (joined_sound end_text spec.one_end Any n.Comma (kind.Sym s.Comma) refl end_sound).reads i y e in
      record { parts = t.parts ∙ ap (λ r. r ++ marks y.1) (joined_is end_text s.Comma y.0); meets = t.meets };
}

channel_took : (i : Tokens) (y : Channel × Tokens) → sees n.LeftBrace i ≡ true → spec.one_channel i ≡ Ok y → Took channel_text IsChannel i y
unfolding spec.one_channel
channel_took i y h e =
    let a = bind_ok (list_of spec.one_end n.Comma (after i)) _ y e in
    let es = ends_sound.reads (after i) a.0 a.1 in
    let b = bind_ok (expect n.RightBrace a.0.1) _ y a.2 in
    let right = expected n.RightBrace (kind.Sym s.RightBrace) a.0.1 b.0 refl b.1 in
    let text = separated end_text s.Comma a.0.0 in
    ok_took (record { pos = position i; ends = a.0.0 }, b.0.1) y b.2 (record {
      parts = takes (kind.Sym s.LeftBrace) i (ap token_of (sees_is n.LeftBrace i h)) ∙ ap (λ r. symbol s.LeftBrace ∷ r) (es.parts ∙ ap (λ r. text ++ r) right ∙ sym (append_assoc text (symbol s.RightBrace ∷ []) (marks b.0.1)));
      meets = filled a.0.0 es.meets;
    })

channels_sound : Sound (each_text channel_text) spec.channels (Each IsChannel)
unfolding spec.channels
channels_sound = each_sound channel_text (sees n.LeftBrace) spec.one_channel IsChannel channel_took

pub channels_section_sound : Sound (section_text k.Channels (each_text channel_text)) spec.channels_section (IfWritten (Each IsChannel))
unfolding spec.channels_section
channels_section_sound = section_sound n.Channels k.Channels (each_text channel_text) spec.channels (Each IsChannel) refl channels_sound

-- ---- cluster classes and the system

-- What is read as a cluster class is the text of one that the grammar has.
pub cluster_class_sound : Sound cluster_class_text spec.cluster_class IsClusterClass
unfolding spec.cluster_class
cluster_class_sound = record {
  reads = λ i y e.
      let a = bind_ok (expect n.Cluster i) _ y e in
      let first = expected n.Cluster (kind.Key k.Cluster) i a.0 refl a.1 in
      let b = bind_ok (expect n.Class a.0.1) _ y a.2 in
      let second = expected n.Class (kind.Key k.Class) a.0.1 b.0 refl b.1 in
      let c = bind_ok (names.word b.0.1) _ y b.2 in
      let name = word_sound.reads b.0.1 c.0 c.1 in
      let d = bind_ok (names.optional_formal c.0.1) _ y c.2 in
      let formal = optional_formal_sound.reads c.0.1 d.0 d.1 in
      let p = bind_ok (names.ports d.0.1) _ y d.2 in
      let ports = ports_sound.reads d.0.1 p.0 p.1 in
      let q = bind_ok (spec.instances_section p.0.1) _ y p.2 in
      let is = instances_section_sound.reads p.0.1 q.0 q.1 in
      let r = bind_ok (spec.channels_section q.0.1) _ y q.2 in
      let cs = channels_section_sound.reads q.0.1 r.0 r.1 in
      ok_took (record { name = c.0.0; parameters = d.0.0; ports = p.0.0; instances = q.0.0; channels = r.0.0 }, r.0.1) y r.2 (record {
        parts = first ∙ ap (λ l. keyword k.Cluster ∷ l) (second ∙ ap (λ l. keyword k.Class ∷ l) (name.parts ∙ ap (λ l. word c.0.0 ∷ l) (
            formal.parts ∙ ap (λ l. optional_text formal_text d.0.0 ++ l) (ports.parts ∙ ap (λ l. section_text k.Ports names_text p.0.0 ++ l) (is.parts ∙ ap (λ l. section_text k.Instances (each_text instance_text) q.0.0 ++ l) cs.parts))
            ∙ fold (optional_text formal_text d.0.0) (section_text k.Ports names_text p.0.0) (section_text k.Instances (each_text instance_text) q.0.0) (section_text k.Channels (each_text channel_text) r.0.0) (marks r.0.1)
            )));
        meets = (formal.meets, cs.meets);
      });
}
  where
    fold : (f p i c j : List Mark) → f ++ (p ++ (i ++ (c ++ j))) ≡ (f ++ (p ++ (i ++ c))) ++ j
    fold f p i c j = sym (append_assoc f (p ++ (i ++ c)) j ∙ ap (λ r. f ++ r) (append_assoc p (i ++ c) j ∙ ap (λ r. p ++ r) (append_assoc i c j)))

-- What is read as the system is the text of one that the grammar has.
pub system_sound : Sound system_text spec.system IsSystem
unfolding spec.system
system_sound = record {
  reads = λ i y e.
      let a = bind_ok (expect n.System i) _ y e in
      let first = expected n.System (kind.Key k.System) i a.0 refl a.1 in
      let q = bind_ok (spec.instances_section a.0.1) _ y a.2 in
      let is = instances_section_sound.reads a.0.1 q.0 q.1 in
      let r = bind_ok (spec.channels_section q.0.1) _ y q.2 in
      let cs = channels_section_sound.reads q.0.1 r.0 r.1 in
      ok_took (record { pos = position i; instances = q.0.0; channels = r.0.0 }, r.0.1) y r.2 (record {
        parts = first ∙ ap (λ l. keyword k.System ∷ l) (is.parts ∙ ap (λ l. section_text k.Instances (each_text instance_text) q.0.0 ++ l) cs.parts
            ∙ sym (append_assoc (section_text k.Instances (each_text instance_text) q.0.0) (section_text k.Channels (each_text channel_text) r.0.0) (marks r.0.1)));
        meets = cs.meets;
      });
}
