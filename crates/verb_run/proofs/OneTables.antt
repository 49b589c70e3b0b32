-- What the three files of a table come to is one.
use Rattle.std.proofs.Common.{arith, ◌≡◌, ⊎_elim, ◌<◌, ◌≤◌, ◌+◌, ℕ, List, Some, length, sym, ap, subst, ◌∙◌}
use Rattle.std.specs.Prelude.{slice_get}
use Rattle.std.proofs.lemmas.Bool.{cases_lt}
use Rattle.base_values.specs.declared.limits.TheConstants.{MOST_TOPS}
use Rattle.base_files.specs.declared.files.NamedFile.{NamedFile}
use Rattle.smv_lexer.specs.declared.token.Token.{Token}
use Rattle.smv_lexer.specs.Tokens.{HasTokens}
use Rattle.smv_language.specs.Language.{lexemes_of, Text, Formula, ProgramTree, Each}
use Rattle.smv_expression_reader.specs.declared.fault.ParseFault.{ParseFault}
use Rattle.smv_expression_reader.specs.Stops.{FaultMeans}
use Rattle.smv_expression_reader.specs.Lists.{IsExpressions}
use Rattle.smv_expression_reader.specs.ExpressionDepths.{HaveDepths, AreTooDeep}
use Rattle.smv_flat_laws.specs.Rules.{IsAccepted}
use Rattle.verb_loading.specs.declared.status.InputFault.{InputFault}
use Rattle.verb_loading.specs.declared.status.Refusal.{Refusal}
use Rattle.verb_loading.specs.declared.status.Refusal.TheVariants as refusal
use Rattle.verb_loading.specs.declared.wrong.Wrong.TheVariants as wrong
use Rattle.verb_loading.specs.Wrongs.{parse_wrong}
use Rattle.verb_loading.specs.Inputs.{RefusesFaults}
use Rattle.verb_loading.specs.Cases.{Case, HoldsCase, IsTop, IsWrongTop, HoldsTops}
use Rattle.verb_run.specs.Tables.{IsListText, AreTopTexts, IsWrongList, no_list, long_list, IsFirstNoTop, IsWrongTops, wrong_list, wrong_event, RefusesTops, tops_file, tops_bytes, RefusesTable, table_no_model, table_no_faults, table_no_tops}
use Rattle.verb_loading.proofs.Told.{one_refusal}
use Rattle.verb_loading.proofs.TextFaults.{reason, of_this_kind, same_reason}
use Rattle.base_values.specs.declared.limits.TheConstants.{MOST_FILE_BYTES}
use Rattle.verb_loading.proofs.FilesWithin.{no_bytes_within, one_fault_above, same_bytes_within}
use Rattle.verb_loading.proofs.OneTop.{one_wrong_top, top_not_wrong}
use Rattle.verb_loading.proofs.OneExtending.{one_refused_faults}
use Rattle.verb_loading.proofs.OneModelFault.{one_refused_model, held_not_refused, one_held_model}
use Rattle.verb_loading.proofs.OneCase.{case_not_refused}
use Rattle.verb_loading.proofs.OneFaults.{same_given as same_there}
use Rattle.smv_flat_laws.proofs.Conditions.{each_at}

module _ (bytes : List ℕ) where
  not_deep : (es : List Formula) → IsListText bytes es → AreTooDeep bytes → ⊥
  not_deep es text d = d.deep (subst (HaveDepths bytes) (text.only d.trees d.spelled) text.depths)

  deep_spelled : AreTooDeep bytes → (tokens : List Token) × HasTokens bytes tokens × IsExpressions (lexemes_of bytes tokens)
  deep_spelled d = (d.spelled.0, d.spelled.1, (d.trees, d.spelled.2))

  unread : (es : List Formula) (f : ParseFault) (a : InputFault) → wrong.Refused a ≡ parse_wrong f → FaultMeans IsExpressions (AreTooDeep bytes) bytes f → IsListText bytes es → ⊥
  unread es f a is means text =
      of_this_kind IsExpressions (AreTooDeep bytes) bytes text.spelled.0 text.spelled.1 (es, text.spelled.2) (not_deep es text) (reason IsExpressions (AreTooDeep bytes) bytes f a is means)

  one_list_text : (es fs : List Formula) → IsListText bytes es → IsListText bytes fs → es ≡ fs
  one_list_text es fs text other = text.only fs other.spelled

  one_wrong_list : (a b : InputFault) → IsWrongList bytes a → IsWrongList bytes b → a ≡ b
  one_wrong_list a b (no_list f means is) (no_list g means' was) =
      one_refusal (same_reason IsExpressions (AreTooDeep bytes) bytes deep_spelled (reason IsExpressions (AreTooDeep bytes) bytes f a is means) (reason IsExpressions (AreTooDeep bytes) bytes g b was means'))
  one_wrong_list a b (no_list f means is) (long_list es text more was) = absurd (unread es f a is means text)
  one_wrong_list a b (long_list es text more is) (no_list g means was) = absurd (unread es g b was means text)
  one_wrong_list a b (long_list es text more is) (long_list fs other more' was) = is ∙ sym was

  list_not_wrong : (es : List Formula) (a : InputFault) → AreTopTexts bytes es → IsWrongList bytes a → ⊥
  list_not_wrong es a texts (no_list f means is) = unread es f a is means texts.text
  list_not_wrong es a texts (long_list fs text more is) =
      let fits : length fs ≤ MOST_TOPS = subst (λ (xs : List Formula). length xs ≤ MOST_TOPS) (one_list_text es fs texts.text text) texts.few in omega (arith, more, fits)

module _ (p : ProgramTree) (accepted : IsAccepted p) where
  module _ (es : List Formula) where
    no_later : (a b : InputFault) (x : IsFirstNoTop p es a) (y : IsFirstNoTop p es b) → x.place < y.place → ⊥
    no_later a b x y less = top_not_wrong p accepted x.event (x.place + 1) a (y.before x.place x.event less x.is_there) x.wrong

    same_place : (a b : InputFault) (x : IsFirstNoTop p es a) (y : IsFirstNoTop p es b) → x.place ≡ y.place
    same_place a b x y =
        ⊎_elim (λ less. absurd (no_later a b x y less)) (λ most. ⊎_elim (λ less. absurd (no_later b a y x less)) (λ least. omega (arith, most, least)) (cases_lt y.place x.place))
        (cases_lt x.place y.place)

    one_no_top : (a b : InputFault) → IsFirstNoTop p es a → IsFirstNoTop p es b → a ≡ b
    one_no_top a b x y =
        let places = same_place a b x y in
        let events : y.event ≡ x.event = same_there y.is_there (subst (λ k. slice_get es k ≡ Some x.event) places x.is_there) in
        one_wrong_top p accepted x.event (x.place + 1) a b x.wrong (subst (λ k. IsWrongTop p x.event (k + 1) b) (sym places) (subst (λ e. IsWrongTop p e (y.place + 1) b) events y.wrong))

    none_wrong : (a : InputFault) → Each (IsTop p) es → IsFirstNoTop p es a → ⊥
    none_wrong a tops x = top_not_wrong p accepted x.event (x.place + 1) a (each_at (IsTop p) es x.place x.event tops x.is_there) x.wrong

  one_wrong_tops : (bytes : List ℕ) (a b : InputFault) → IsWrongTops p bytes a → IsWrongTops p bytes b → a ≡ b
  one_wrong_tops bytes a b (wrong_list bad) (wrong_list also) = one_wrong_list bytes a b bad also
  one_wrong_tops bytes a b (wrong_list bad) (wrong_event es texts first) = absurd (list_not_wrong bytes es a texts bad)
  one_wrong_tops bytes a b (wrong_event es texts first) (wrong_list bad) = absurd (list_not_wrong bytes es b texts bad)
  one_wrong_tops bytes a b (wrong_event es texts first) (wrong_event fs others second) =
      one_no_top es a b first (subst (λ xs. IsFirstNoTop p xs b) (one_list_text bytes fs es others.text texts.text) second)

  tops_not_wrong : (bytes : List ℕ) (es : List Formula) (a : InputFault) → AreTopTexts bytes es → Each (IsTop p) es → IsWrongTops p bytes a → ⊥
  tops_not_wrong bytes es a texts tops (wrong_list bad) = list_not_wrong bytes es a texts bad
  tops_not_wrong bytes es a texts tops (wrong_event fs others first) = none_wrong es a tops (subst (λ xs. IsFirstNoTop p xs a) (one_list_text bytes fs es others.text texts.text) first)

  module _ (files : List NamedFile) (name : Text) where
    texts_held : (es : List Formula) (h : HoldsTops files name p es) → AreTopTexts h.bytes es
    texts_held es h = record { text = record { spelled = h.spelled; only = h.only; depths = h.depths }; few = h.few }

    pub one_refused_tops : (r s : Refusal) → RefusesTops files name p r → RefusesTops files name p s → r ≡ s
    one_refused_tops r s (tops_file a is bad) (tops_file b was also) = is ∙ ap (λ f. refusal.Top f) (one_fault_above MOST_FILE_BYTES files name a b bad also) ∙ sym was
    one_refused_tops r s (tops_file a is bad) (tops_bytes bytes b was has also) = absurd (no_bytes_within MOST_FILE_BYTES files name a bytes bad has)
    one_refused_tops r s (tops_bytes bytes a is has bad) (tops_file b was also) = absurd (no_bytes_within MOST_FILE_BYTES files name b bytes also has)
    one_refused_tops r s (tops_bytes bytes a is has bad) (tops_bytes more b was have also) =
        is ∙ ap (λ f. refusal.Top f) (one_wrong_tops bytes a b bad (subst (λ bs. IsWrongTops p bs b) (same_bytes_within MOST_FILE_BYTES files name more bytes have has) also)) ∙ sym was

    pub tops_not_refused : (es : List Formula) (r : Refusal) → HoldsTops files name p es → RefusesTops files name p r → ⊥
    tops_not_refused es r h (tops_file a is bad) = no_bytes_within MOST_FILE_BYTES files name a h.bytes bad h.has
    tops_not_refused es r h (tops_bytes bytes a is has bad) =
        tops_not_wrong h.bytes es a (texts_held es h) h.are_tops (subst (λ bs. IsWrongTops p bs a) (same_bytes_within MOST_FILE_BYTES files name bytes h.bytes has h.has) bad)

    pub one_held_tops : (es fs : List Formula) → HoldsTops files name p es → HoldsTops files name p fs → es ≡ fs
    one_held_tops es fs h g = one_list_text h.bytes es fs (texts_held es h).text (subst (λ bs. IsListText bs fs) (same_bytes_within MOST_FILE_BYTES files name g.bytes h.bytes g.has h.has) (texts_held fs g).text)

module _ (files : List NamedFile) (model faults tops : Text) where
  pub one_refused_table : (r s : Refusal) → RefusesTable files model faults tops r → RefusesTable files model faults tops s → r ≡ s
  one_refused_table r s (table_no_model bad) (table_no_model also) = one_refused_model files model r s bad also
  one_refused_table r s (table_no_model bad) (table_no_faults p holds wrong) = absurd (held_not_refused files model p r holds bad)
  one_refused_table r s (table_no_model bad) (table_no_tops c holds wrong) = absurd (held_not_refused files model c.program r holds.program bad)
  one_refused_table r s (table_no_faults p holds wrong) (table_no_model bad) = absurd (held_not_refused files model p s holds bad)
  one_refused_table r s (table_no_faults p holds wrong) (table_no_faults t other also) =
      one_refused_faults files faults p holds.flat holds.lawful r s wrong (subst (λ u. RefusesFaults files faults u s) (one_held_model files model p t holds other) also)
  one_refused_table r s (table_no_faults p holds wrong) (table_no_tops c held bad) = absurd (case_not_refused files model faults c p r held (one_held_model files model p c.program holds held.program) wrong)
  one_refused_table r s (table_no_tops c held bad) (table_no_model gone) = absurd (held_not_refused files model c.program s held.program gone)
  one_refused_table r s (table_no_tops c held bad) (table_no_faults p holds wrong) = absurd (case_not_refused files model faults c p s held (one_held_model files model p c.program holds held.program) wrong)
  one_refused_table r s (table_no_tops c held bad) (table_no_tops d other also) =
      one_refused_tops c.program held.program.lawful.accepted files tops r s bad (subst (λ p. RefusesTops files tops p s) (one_held_model files model c.program d.program held.program other.program) also)

  -- where the files hold a case with top events, none is refused
  pub table_not_refused : (c : Case) (es : List Formula) (r : Refusal) → HoldsCase files model faults c → HoldsTops files tops c.program es → RefusesTable files model faults tops r → ⊥
  table_not_refused c es r holds are (table_no_model bad) = held_not_refused files model c.program r holds.program bad
  table_not_refused c es r holds are (table_no_faults p other wrong) = case_not_refused files model faults c p r holds (one_held_model files model p c.program other holds.program) wrong
  table_not_refused c es r holds are (table_no_tops d other bad) =
      tops_not_refused c.program holds.program.lawful.accepted files tops es r are (subst (λ p. RefusesTops files tops p r) (one_held_model files model c.program d.program holds.program other.program) bad)
