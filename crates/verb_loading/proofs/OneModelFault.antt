-- What is wrong with a model's file is one thing, and nothing is where it is taken.
use Rattle.std.proofs.Common.{◌≡◌, ℕ, List, sym, ap, subst, ◌∙◌}
use Rattle.base_files.specs.declared.files.NamedFile.{NamedFile}
use Rattle.smv_lexer.specs.declared.token.Token.{Token}
use Rattle.smv_lexer.specs.Tokens.{HasTokens}
use Rattle.smv_language.specs.Language.{Text, ProgramTree, lexemes_of, BytesSpellProgram, FlatModel}
use Rattle.smv_expression_reader.specs.declared.fault.ParseFault.{ParseFault}
use Rattle.smv_model_reader.specs.Symbols.{IsProgram}
use Rattle.smv_model_reader.specs.ProgramDepths.{HasProgramDepths, IsProgramTooDeep}
use Rattle.smv_flat_laws.specs.Rules.{Rule, IsFirstBroken, IsAccepted, number_of}
use Rattle.smv_flat_laws.specs.Model.{IsFlatOf}
use Rattle.smv_flat_laws.proofs.Laws.{one_fault as one_broken, accepted_unbroken}
use Rattle.smv_type_laws.specs.ExpressionKinds.{KindRule, number_of as kind_number}
use Rattle.smv_type_laws.specs.Models.{IsFault, IsTyped}
use Rattle.smv_type_laws.proofs.Typed.{one_fault as one_kind_fault, typed_has_none}
use Rattle.verb_loading.specs.declared.wrong.Wrong.TheVariants as wrong
use Rattle.verb_loading.specs.declared.status.InputFault.{InputFault}
use Rattle.verb_loading.specs.declared.status.Part.{Part}
use Rattle.verb_loading.specs.declared.status.Refusal.{Refusal}
use Rattle.verb_loading.specs.declared.status.Refusal.TheVariants as refusal
use Rattle.verb_loading.specs.Wrongs.{parse_wrong, names_fault, kinds_fault}
use Rattle.verb_loading.specs.Models.{IsModelText, IsModelFault, IsLawful, IsWrongModel, not_read, not_flat, not_typed}
use Rattle.verb_loading.specs.Inputs.{RefusesModel, model_file, model_bytes, HoldsModel}
use Rattle.verb_loading.proofs.Told.{one_refusal}
use Rattle.verb_loading.proofs.TextFaults.{reason, of_this_kind, same_reason}
use Rattle.base_values.specs.declared.limits.TheConstants.{MOST_FILE_BYTES}
use Rattle.verb_loading.proofs.FilesWithin.{no_bytes_within, one_fault_above, same_bytes_within}

-- a rule and a place are told in one way
one_place : (p : Part) (a b i j : ℕ) → a ≡ b → i ≡ j → ◌≡◌ {A = InputFault} (record { part = p; number = a; place = i }) (record { part = p; number = b; place = j })
one_place p a b i j e f = ap (λ n. record { part = p; number = n; place = i }) e ∙ ap (λ n. record { part = p; number = b; place = n }) f

-- the first broken rules of names, told at the same place or each at its item, are told as one
pub one_name : (p : ProgramTree) (r q : Rule) (i j : ℕ) → IsFirstBroken p r i → IsFirstBroken p q j → (at : ℕ → ℕ) → names_fault r (at i) ≡ names_fault q (at j)
one_name p r q i j a b at = let one = one_broken p r q i j a b in one_place _ (number_of r) (number_of q) (at i) (at j) one.0 (ap at one.1)

-- and so are the first broken rules of kinds
pub one_kind : (m : FlatModel) (r q : KindRule) (i j : ℕ) → IsFault m r i → IsFault m q j → (at : ℕ → ℕ) → kinds_fault r (at i) ≡ kinds_fault q (at j)
one_kind m r q i j a b at = let one = one_kind_fault m r q i j a b in one_place _ (kind_number r) (kind_number q) (at i) (at j) one.0 (ap at one.1)

module _ (bytes : List ℕ) where
  -- a model that is taken is not too deep
  not_deep : (p : ProgramTree) → IsModelText bytes p → IsProgramTooDeep bytes → ⊥
  not_deep p text d = d.deep (subst (HasProgramDepths bytes) (text.only d.program d.spelled) text.depths)

  deep_spelled : IsProgramTooDeep bytes → (tokens : List Token) × HasTokens bytes tokens × IsProgram (lexemes_of bytes tokens)
  deep_spelled d = (d.spelled.0, d.spelled.1, (d.program, d.spelled.2))

  -- bytes that can't be read are the text of no program
  unread : (p : ProgramTree) (f : ParseFault) (fault : InputFault) → wrong.Refused fault ≡ parse_wrong f → IsModelFault bytes f → IsModelText bytes p → ⊥
  unread p f fault e means text =
      of_this_kind IsProgram (IsProgramTooDeep bytes) bytes text.spelled.0 text.spelled.1 (p, text.spelled.2) (not_deep p text) (reason IsProgram (IsProgramTooDeep bytes) bytes f fault e means)

  one_text : (p q : ProgramTree) → IsModelText bytes p → IsModelText bytes q → p ≡ q
  one_text p q text other = text.only q other.spelled

  pub one_wrong_model : (a b : InputFault) → IsWrongModel bytes a → IsWrongModel bytes b → a ≡ b
  one_wrong_model a b (not_read f h e) (not_read g k d) =
      one_refusal (same_reason IsProgram (IsProgramTooDeep bytes) bytes deep_spelled (reason IsProgram (IsProgramTooDeep bytes) bytes f a e h) (reason IsProgram (IsProgramTooDeep bytes) bytes g b d k))
  one_wrong_model a b (not_read f h e) (not_flat p r i text first is) = absurd (unread p f a e h text)
  one_wrong_model a b (not_read f h e) (not_typed p m r i text accepted has fault is) = absurd (unread p f a e h text)
  one_wrong_model a b (not_flat p r i text first is) (not_read f h e) = absurd (unread p f b e h text)
  one_wrong_model a b (not_flat p r i text first is) (not_flat q s j other second was) =
      is ∙ one_name p r s i j first (subst (λ t. IsFirstBroken t s j) (one_text q p other text) second) (λ n. n) ∙ sym was
  one_wrong_model a b (not_flat p r i text first is) (not_typed q m s j other accepted has fault was) =
      absurd (accepted_unbroken p r i (subst IsAccepted (one_text q p other text) accepted) first)
  one_wrong_model a b (not_typed p m r i text accepted has fault is) (not_read f h e) = absurd (unread p f b e h text)
  one_wrong_model a b (not_typed p m r i text accepted has fault is) (not_flat q s j other first was) =
      absurd (accepted_unbroken q s j (subst IsAccepted (one_text p q text other) accepted) first)
  one_wrong_model a b (not_typed p m r i text accepted has fault is) (not_typed q n s j other accepted' has' fault' was) =
      let same : n ≡ m = has.only n (subst (λ t. IsFlatOf t n) (one_text q p other text) has'.is) in
      is ∙ one_kind m r s i j fault (subst (λ k. IsFault k s j) same fault') (λ n. n) ∙ sym was

  -- nothing is wrong with the text of a lawful program
  pub lawful_not_wrong : (p : ProgramTree) (m : FlatModel) (a : InputFault) → IsModelText bytes p → IsLawful p m → IsWrongModel bytes a → ⊥
  lawful_not_wrong p m a text lawful (not_read f h e) = unread p f a e h text
  lawful_not_wrong p m a text lawful (not_flat q r i other first is) = accepted_unbroken q r i (subst IsAccepted (one_text p q text other) lawful.accepted) first
  lawful_not_wrong p m a text lawful (not_typed q n r i other accepted has fault is) =
      let same : m ≡ n = has.only m (subst (λ t. IsFlatOf t m) (one_text p q text other) lawful.model.is) in
      typed_has_none n r i (subst IsTyped same lawful.typed) fault

module _ (files : List NamedFile) (name : Text) where
  pub one_refused_model : (r s : Refusal) → RefusesModel files name r → RefusesModel files name s → r ≡ s
  one_refused_model r s (model_file a is refused) (model_file b was also) = is ∙ ap (λ f. refusal.Model f) (one_fault_above MOST_FILE_BYTES files name a b refused also) ∙ sym was
  one_refused_model r s (model_file a is refused) (model_bytes bytes b was has bad) = absurd (no_bytes_within MOST_FILE_BYTES files name a bytes refused has)
  one_refused_model r s (model_bytes bytes a is has bad) (model_file b was refused) = absurd (no_bytes_within MOST_FILE_BYTES files name b bytes refused has)
  one_refused_model r s (model_bytes bytes a is has bad) (model_bytes others b was holds also) =
      is ∙ ap (λ f. refusal.Model f) (one_wrong_model bytes a b bad (subst (λ t. IsWrongModel t b) (same_bytes_within MOST_FILE_BYTES files name others bytes holds has) also)) ∙ sym was

  pub held_not_refused : (p : ProgramTree) (r : Refusal) → HoldsModel files name p → RefusesModel files name r → ⊥
  held_not_refused p r holds (model_file a is refused) = no_bytes_within MOST_FILE_BYTES files name a holds.bytes refused holds.has
  held_not_refused p r holds (model_bytes bytes a is has bad) =
      lawful_not_wrong holds.bytes p holds.flat a holds.is_text holds.lawful (subst (λ t. IsWrongModel t a) (same_bytes_within MOST_FILE_BYTES files name bytes holds.bytes has holds.has) bad)

  pub one_held_model : (p q : ProgramTree) → HoldsModel files name p → HoldsModel files name q → q ≡ p
  one_held_model p q holds other =
      other.is_text.only p (subst (λ b. BytesSpellProgram b p) (same_bytes_within MOST_FILE_BYTES files name holds.bytes other.bytes holds.has other.has) holds.is_text.spelled)
