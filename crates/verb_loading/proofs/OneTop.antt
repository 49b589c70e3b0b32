-- What is wrong with the word of a top event is one thing, and nothing is where it spells one.
use Rattle.std.proofs.Common.{arith, ◌≡◌, ⊎_elim, ℕ, false, List, [], Option, Some, None, sym, ap, subst, ◌∙◌}
use Rattle.std.proofs.lemmas.Bool.{cases_lt}
use Rattle.smv_lexer.specs.declared.token.Token.{Token}
use Rattle.smv_lexer.specs.Tokens.{HasTokens}
use Rattle.smv_lexer.proofs.SplitLemmas.{one_answer}
use Rattle.smv_language.specs.Language.{Tree, lexemes_of, BytesSpellExpr, HasDepths, Text, Formula, ProgramTree, SpellsExpr, FlatLeaf, FlatModel}
use Rattle.smv_language.proofs.OneTree.{one_expression}
use Rattle.smv_expression_reader.specs.declared.fault.ParseFault.{ParseFault}
use Rattle.smv_expression_reader.specs.Stops.{IsExpression, IsTooDeep, FaultMeans}
use Rattle.smv_flat_laws.specs.Model.{IsFlatOf}
use Rattle.smv_flat_laws.specs.ResolvedAt.{IsResolvedAt}
use Rattle.smv_flat_laws.specs.Rules.{Rule, number_of, IsAccepted}
use Rattle.smv_flat_laws.specs.ValueRules.{IsLeastBroken}
use Rattle.smv_type_laws.specs.ExpressionKinds.{KindRule}
use Rattle.smv_type_laws.specs.Models.{top_fault}
use Rattle.fault_extend_laws.proofs.OneForm.{same_form}
use Rattle.verb_loading.specs.declared.status.InputFault.{InputFault}
use Rattle.verb_loading.specs.declared.status.Part.TheVariants as part
use Rattle.verb_loading.specs.declared.wrong.Wrong.TheVariants as wrong
use Rattle.verb_loading.specs.Wrongs.{parse_wrong, names_fault, kinds_fault}
use Rattle.verb_loading.specs.Models.{IsModelOf}
use Rattle.verb_loading.specs.Cases.{IsTop, IsWrongTop, by_names, by_kinds, IsTopWord, IsWrongWord, too_long, not_spelled, not_kept}
use Rattle.verb_loading.proofs.Told.{one_refusal}
use Rattle.verb_loading.proofs.TextFaults.{reason, of_this_kind, same_reason}

-- an expression has one tree over a program's flat model
pub same_tree : (p : ProgramTree) (m : FlatModel) → IsAccepted p → IsFlatOf p m → (e : Formula) (t u : Tree FlatLeaf) → IsResolvedAt p m [] e t → IsResolvedAt p m [] e u → t ≡ u
same_tree p m accepted is e t u h g = let same : Some t ≡ Some u = same_form p m accepted is [] (Some e) (Some t) (Some u) h g in cc

module _ (p : ProgramTree) (accepted : IsAccepted p) (e : Formula) (place : ℕ) where
  -- the least broken rules of names are told as one
  one_least : (r q : Rule) → IsLeastBroken p [] false e r → IsLeastBroken p [] false e q → names_fault r place ≡ names_fault q place
  one_least r q h g =
      ap (λ n. record { part = part.Flat; number = n; place = place })
      (⊎_elim (λ less. absurd (g.lowest r less h.broken)) (λ most. ⊎_elim (λ less. absurd (h.lowest q less g.broken)) (λ least. omega (arith, most, least)) (cases_lt (number_of q) (number_of r)))
      (cases_lt (number_of r) (number_of q)))

  -- what is told of the expression over one flat model is told over the other
  one_told : (m n : FlatModel) (t u : Tree FlatLeaf) → IsModelOf p m → IsModelOf p n → IsResolvedAt p m [] e t → IsResolvedAt p n [] e u → top_fault m t ≡ top_fault n u
  one_told m n t u has also h g =
      let models : n ≡ m = has.only n also.is in
      let trees : u ≡ t = same_tree p m accepted has.is e u t (subst (λ k. IsResolvedAt p k [] e u) models g) h in
      sym (ap (λ k. top_fault k u) models ∙ ap (top_fault m) trees)

  same_rule : {o : Option KindRule} {r q : KindRule} → o ≡ Some r → o ≡ Some q → r ≡ q
  same_rule h g = cc

  pub one_wrong_top : (a b : InputFault) → IsWrongTop p e place a → IsWrongTop p e place b → a ≡ b
  one_wrong_top a b (by_names r h is) (by_names q g was) = is ∙ one_least r q h g ∙ sym was
  one_wrong_top a b (by_names r h is) (by_kinds n u q none also g told was) = absurd (none r h.broken)
  one_wrong_top a b (by_kinds m t r none has h told is) (by_names q g was) = absurd (none q g.broken)
  one_wrong_top a b (by_kinds m t r none has h told is) (by_kinds n u q none' also g told' was) =
      is ∙ ap (λ k. kinds_fault k place) (same_rule told (one_told m n t u has also h g ∙ told')) ∙ sym was

  pub top_not_wrong : (a : InputFault) → IsTop p e → IsWrongTop p e place a → ⊥
  top_not_wrong a top (by_names r h is) = top.names r h.broken
  top_not_wrong a top (by_kinds n u q none also g told was) =
      let bad : Path (Option KindRule) None (Some q) = sym top.kinds ∙ one_told top.flat n top.tree u top.is_flat also top.resolved g ∙ told in cc

module _ (p : ProgramTree) (accepted : IsAccepted p) (bytes : Text) where
  one_spelled : (e f : Formula) → BytesSpellExpr bytes e → BytesSpellExpr bytes f → e ≡ f
  one_spelled e f h g = one_expression h.2 (subst (λ (ts : List Token). SpellsExpr (lexemes_of bytes ts) f) (one_answer bytes h.0 g.0 h.1 g.1) g.2)

  not_deep : (e : Formula) → BytesSpellExpr bytes e → HasDepths bytes e → IsTooDeep bytes → ⊥
  not_deep e spelled depths d = d.deep (subst (HasDepths bytes) (one_spelled e d.tree spelled d.spelled) depths)

  deep_spelled : IsTooDeep bytes → (tokens : List Token) × HasTokens bytes tokens × IsExpression (lexemes_of bytes tokens)
  deep_spelled d = (d.spelled.0, d.spelled.1, (d.tree, d.spelled.2))

  unread : (e : Formula) (f : ParseFault) (a : InputFault) → wrong.Refused a ≡ parse_wrong f → FaultMeans IsExpression (IsTooDeep bytes) bytes f → BytesSpellExpr bytes e → HasDepths bytes e → ⊥
  unread e f a is means spelled depths =
      of_this_kind IsExpression (IsTooDeep bytes) bytes spelled.0 spelled.1 (e, spelled.2) (not_deep e spelled depths) (reason IsExpression (IsTooDeep bytes) bytes f a is means)

  pub one_wrong_word : (a b : InputFault) → IsWrongWord p bytes a → IsWrongWord p bytes b → a ≡ b
  one_wrong_word a b (too_long more is) (too_long also was) = is ∙ sym was
  one_wrong_word a b (too_long more is) (not_spelled g few means was) = absurd (omega (arith, more, few))
  one_wrong_word a b (too_long more is) (not_kept e few spelled depths bad) = absurd (omega (arith, more, few))
  one_wrong_word a b (not_spelled f few means is) (too_long more was) = absurd (omega (arith, more, few))
  one_wrong_word a b (not_spelled f few means is) (not_spelled g few' means' was) =
      one_refusal (same_reason IsExpression (IsTooDeep bytes) bytes deep_spelled (reason IsExpression (IsTooDeep bytes) bytes f a is means) (reason IsExpression (IsTooDeep bytes) bytes g b was means'))
  one_wrong_word a b (not_spelled f few means is) (not_kept e few' spelled depths bad) = absurd (unread e f a is means spelled depths)
  one_wrong_word a b (not_kept e few spelled depths bad) (too_long more was) = absurd (omega (arith, more, few))
  one_wrong_word a b (not_kept e few spelled depths bad) (not_spelled g few' means was) = absurd (unread e g b was means spelled depths)
  one_wrong_word a b (not_kept e few spelled depths bad) (not_kept f few' spelled' depths' bad') =
      one_wrong_top p accepted e 0 a b bad (subst (λ k. IsWrongTop p k 0 b) (one_spelled f e spelled' spelled) bad')

  pub word_not_wrong : (e : Formula) (a : InputFault) → IsTopWord p bytes e → IsWrongWord p bytes a → ⊥
  word_not_wrong e a word (too_long more is) = omega (arith, more, word.short)
  word_not_wrong e a word (not_spelled f few means is) = unread e f a is means word.spelled word.depths
  word_not_wrong e a word (not_kept f few spelled depths bad) = top_not_wrong p accepted e 0 a word.is_top (subst (λ k. IsWrongTop p k 0 a) (sym (word.only f spelled)) bad)

  pub one_top : (e f : Formula) → IsTopWord p bytes e → IsTopWord p bytes f → e ≡ f
  one_top e f word other = word.only f other.spelled
