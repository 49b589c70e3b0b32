-- A moment that gives the bits of a valuation is read as one.
use Rattle.std.proofs.Common.{◌≡◌, ℕ, zero, suc, ◌+◌, Bool, true, false, List, [], ◌∷◌, Some, Result, Ok, Err, IfOk, refl, sym, ap, ◌∙◌, subst}
use Rattle.std.specs.Prelude.{slice_get, slice_index_or}
use Rattle.smv_language.specs.Language.{Text, Tree, Value as Told, symbol, FlatLeaf, FlatModel}
use Rattle.smv_language.specs.Values.{truth, number}
use Rattle.base_values.specs.declared.value.Value.{Value}
use Rattle.base_values.specs.declared.memory.OutOfMemory.{OutOfMemory}
use Rattle.base_values.specs.declared.value.Value.TheVariants.{Bool as ABool, Num, Sym}
use Rattle.smv_flat_laws.specs.History.{Mode, with_history}
use Rattle.smv_flat_laws.specs.FlatTrace.{AreInDomains}
use Rattle.smv_types.specs.Types.{StandsFor}
use Rattle.sat_clauses.specs.Assignment.{Assignment}
use Rattle.sat_clauses.specs.States.{Agrees}
use Rattle.cut_frames.specs.Bits.{read_from}
use Rattle.sat_encoding_laws.specs.Bits.{state_of, inputs_of}
use Rattle.sat_encoding_laws.specs.Layout.{input_place}
use Rattle.sat_encoding_laws.specs.Lists.{system_of}
use Rattle.sat_encoding_laws.specs.Encodable.{IsEncodable}
use Rattle.cut_search_laws.specs.Problem.{problem_of}
use Rattle.cut_search_laws.specs.Searchable.{with_least}
use Rattle.cut_search_laws.proofs.Leasts.{least_values_show}
use Rattle.sat_encoding.specs.Values.{StandFor, HasState}
use Rattle.cut_search.specs.Values.{value_of, values_of}
use Rattle.cut_search.specs.Progress.{IsReadable, IsReadOf}
use Rattle.cut_model_search.specs.MomentReading.{IsRead}
use Rattle.sat_clauses.specs.Models.{values_of as values_in}

-- what is read agrees with what is there
read_agrees : (k n : ℕ) (a : Assignment) → Agrees (values_in a) n (read_from n k a)
read_agrees zero n a = tt
read_agrees (suc k) n a = (refl, read_agrees k (n + 1) a)

-- values that stand for others are told as these
told_one : (symbols : List Text) (v : Value) (w : Told) → StandsFor symbols v w → value_of symbols v ≡ w
told_one symbols (ABool b) (truth c) h = ap truth h
told_one symbols (ABool b) (number n) h = absurd h
told_one symbols (ABool b) (symbol x) h = absurd h
told_one symbols (Num n) (truth c) h = absurd h
told_one symbols (Num n) (number k) h = ap number h
told_one symbols (Num n) (symbol x) h = absurd h
told_one symbols (Sym i) (truth c) h = absurd h
told_one symbols (Sym i) (number k) h = absurd h
told_one symbols (Sym i) (symbol x) h = ap symbol (there symbols i x h.0)
  where
    there : (ys : List Text) (i : ℕ) (x : Text) → slice_get ys i ≡ Some x → slice_index_or ys i [] ≡ x
    there [] i x e = cc
    there (y ∷ ys) zero x e = cc
    there (y ∷ ys) (suc i) x e = there ys i x e

told_all : (symbols : List Text) (v : List Value) (w : List Told) → StandFor symbols v w → values_of symbols v ≡ w
told_all symbols [] [] h = refl
told_all symbols [] (y ∷ w) h = absurd h
told_all symbols (x ∷ v) [] h = absurd h
told_all symbols (x ∷ v) (y ∷ w) h = both (value_of symbols x) y (values_of symbols v) w (told_one symbols x y h.0) (told_all symbols v w h.1)
  where
    both : (a b : Told) (as' bs : List Told) → a ≡ b → as' ≡ bs → (a ∷ as') ≡ (b ∷ bs)
    both a b as' bs e g = cc

module _ (m : FlatModel) (fs : List Mode) (top : Tree FlatLeaf) (encodable : IsEncodable (with_history m fs)) where
  -- a moment that gives bits of a valuation has these
  has_state : (last : Bool) (a : Assignment) (r : IsReadable (problem_of m fs top) last a) → HasState (with_history m fs) a r.values
  has_state last a r = record {
    domains = r.domains;
    state = subst (Agrees (values_in a) 2) (sym r.state) (read_agrees (system_of (with_history m fs)).state_bits 2 a);
  }

  pub is_read_of : (last : Bool) (a : Assignment) (v : List Value) → IsReadable (problem_of m fs top) last a → IsRead (with_history m fs) last a v →
      IsReadOf (problem_of m fs top) last a v
  is_read_of true a v r read =
      let whole = with_history m fs in
      let shown = (least_values_show whole encodable).1 r.values r.domains in
      let told : values_of m.symbols v ≡ with_least whole r.values = told_all m.symbols v (with_least whole r.values) (read r.values (has_state true a r)) in
      record {
        domains = subst (AreInDomains whole.variables) (sym told) shown.domains;
        state = ap (state_of whole) told ∙ shown.state ∙ r.state;
        inputs = λ e. absurd (never e);
      }
    where
      never : true ≡ false → ⊥
      never e = cc
  is_read_of false a v r read =
      let whole = with_history m fs in
      let start = has_state false a r in
      let told : values_of m.symbols v ≡ r.values =
      told_all m.symbols v r.values
      (read r.values (record {
        domains = start.domains;
        state = start.state;
        inputs = subst (Agrees (values_in a) (input_place whole)) (sym (r.inputs refl)) (read_agrees (system_of whole).input_bits (input_place whole) a);
      })) in
      record {
        domains = subst (AreInDomains whole.variables) (sym told) r.domains;
        state = ap (state_of whole) told ∙ r.state;
        inputs = λ e. ap (inputs_of whole) told ∙ r.inputs e;
      }

  -- as what is read of the whole model is, where memory suffices
  pub are_read_of : (full : FlatModel) → full ≡ with_history m fs → (last : Bool) (a : Assignment) (result : Result (List Value) OutOfMemory) →
      IsReadable (problem_of m fs top) last a → IfOk result (λ v. IsRead full last a v) →
      IfOk result (λ v. IsReadOf (problem_of m fs top) last a v)
  are_read_of full e last a (Ok v) r read = is_read_of last a v r (subst (λ w. IsRead w last a v) e read)
  are_read_of full e last a (Err o) r read = read
