-- What a domain tells of a variable's signal is what its declared type does.
use Rattle.std.proofs.Common.{◌≡◌, ℕ, ℤ, pos, false, List, [], ◌∷◌, map, flat_map, Option, Some, None, refl, sym, ◌∙◌, ap}
use Rattle.smv_language.specs.declared.program.Member.{Member}
use Rattle.smv_language.specs.declared.program.Member.TheVariants as member
use Rattle.smv_language.specs.Language.{Text, DeclaredTree, boolean, range, members, instance, trees_from, FlatModel}
use Rattle.base_values.specs.declared.domain.Domain.TheVariants as domain
use Rattle.smv_type_laws.specs.Intervals.{Interval, just, hull}
use Rattle.smv_type_laws.specs.ExpressionKinds.{number_class, symbol_class, mixed_enum, unless_class, hull_of}
use Rattle.smv_type_laws.specs.DeclaredKinds.{member_kind, judged_declared}
use Rattle.smv_type_laws.specs.Costs.{member_number, symbol_number, number_kind, width_in, declared_width}
use Rattle.smv_types.specs.Types.{spread, numbers_in, symbols_in, domain_of}
use Rattle.smv_types.proofs.TypeLaws.{hull_spread}
use Rattle.sat_clauses.specs.Literal.{Literal}
use Rattle.sat_circuits.specs.Circuit.{Circuit, after}
use Rattle.sat_circuits.specs.Gates.{constant_lit, or_gate}
use Rattle.sat_circuits.specs.Numbers.{number_word}
use Rattle.sat_encoding_laws.specs.Widths.{word_width, symbol_width, kind_width, width_by}
use Rattle.sat_encoding_laws.specs.Signals.{Signal, word, as_bit, same_gates}
use Rattle.sat_encoding_laws.specs.Expressions.{whether_has, encoded, encoded_members}
use Rattle.sat_encoding_laws.specs.Layout.{declared_interval, number_signal, variable_signal}
use Rattle.sat_encoding_laws.specs.Lists.{Copy, names_of, asserted_signal, member_tree, type_gates}
use Rattle.sat_encoding_laws.specs.Encodable.{IsListedType}
use Rattle.sat_encoding_laws.proofs.Answering.{kept_interval}
use Rattle.sat_encoding_laws.proofs.TypeMeans.{members_kept, own_none}
use Rattle.sat_encoding.specs.Domains.{domain_interval, domain_width, ends_signal, domain_signal, some_gates, symbol_word, domain_gates}

-- ---- members of one class

numbers_alike : (symbols : List Text) (ms : List Member) → flat_map (unless_class number_class mixed_enum) (map member_kind ms) ≡ [] → map (member_number symbols) ms ≡ numbers_in ms
numbers_alike symbols [] e = refl
numbers_alike symbols (member.Number n ∷ ms) e = ap (λ ns. n ∷ ns) (numbers_alike symbols ms e)
numbers_alike symbols (member.Symbol x ∷ ms) e = cc

symbols_alike : (symbols : List Text) (ms : List Member) → flat_map (unless_class symbol_class mixed_enum) (map member_kind ms) ≡ [] → map (member_number symbols) ms ≡ map pos (symbols_in symbols ms)
symbols_alike symbols [] e = refl
symbols_alike symbols (member.Number n ∷ ms) e = cc
symbols_alike symbols (member.Symbol x ∷ ms) e = ap (λ ns. member_number symbols (member.Symbol x) ∷ ns) (symbols_alike symbols ms e)

kinds_alike : (symbols : List Text) (ms : List Member) → flat_map (unless_class number_class mixed_enum) (map member_kind ms) ≡ [] → map member_kind ms ≡ map (λ m. number_kind (member_number symbols m)) ms
kinds_alike symbols [] e = refl
kinds_alike symbols (member.Number n ∷ ms) e = ap (λ ks. number_kind n ∷ ks) (kinds_alike symbols ms e)
kinds_alike symbols (member.Symbol x ∷ ms) e = cc

-- numbers have an interval
spread_some : (i : Interval) (zs : List ℤ) → (j : Interval) × (spread (Some i) zs ≡ Some j)
spread_some i [] = (i, refl)
spread_some i (z ∷ zs) = spread_some (hull i (just z)) zs

-- ---- the least and the greatest number

pub interval_is : (symbols : List Text) (d : DeclaredTree) → (judged_declared d).broken ≡ [] → domain_interval (domain_of symbols d) ≡ declared_interval symbols d
interval_is symbols boolean e = refl
interval_is symbols (range lo hi) e = refl
interval_is symbols (instance m actuals) e = refl
interval_is symbols (members []) e = refl
interval_is symbols (members (member.Number n ∷ ms)) e =
    let all = member.Number n ∷ ms in
    ap (spread None) (sym (numbers_alike symbols all (members_kept all e).alike)) ∙ hull_spread symbols all
interval_is symbols (members (member.Symbol x ∷ ms)) e =
    let all = member.Symbol x ∷ ms in
    ap (spread None) (sym (symbols_alike symbols all (members_kept all e).alike)) ∙ hull_spread symbols all

pub width_is : (symbols : List Text) (d : DeclaredTree) → (judged_declared d).broken ≡ [] → IsListedType symbols d → domain_width (domain_of symbols d) ≡ declared_width symbols d
width_is symbols boolean e listed = refl
width_is symbols (range lo hi) e listed = refl
width_is symbols (instance m actuals) e listed = absurd listed
width_is symbols (members []) e listed = refl
width_is symbols (members (member.Number n ∷ ms)) e listed = ap width_in (interval_is symbols (members (member.Number n ∷ ms)) e)
width_is symbols (members (member.Symbol x ∷ ms)) e listed = ap width_in (interval_is symbols (members (member.Symbol x ∷ ms)) e)

-- ---- signals

-- a number's signal at the width of its kind
sized : (k w n : ℕ) (o : Option Interval) (j : Interval) → k ≡ w → o ≡ Some j → number_signal w (Some j) n ≡ number_signal k o n
sized k w n o j e f = ap (λ x. number_signal x (Some j) n) (sym e) ∙ ap (λ x. number_signal k x n) (sym f)

pub signal_is : (symbols : List Text) (d : DeclaredTree) → (judged_declared d).broken ≡ [] → IsListedType symbols d → (n : ℕ) → domain_signal (symbol_width symbols) (domain_of symbols d) n ≡ variable_signal symbols d n
signal_is symbols boolean e listed n = refl
signal_is symbols (range lo hi) e listed n =
    let i : Interval = record { lo = lo; hi = hi } in
    sized (kind_width symbols (judged_declared (range lo hi)).kind) (word_width i) n (Some i) i (ap (width_by symbols number_class) (kept_interval _ (Some i) (own_none _ e))) refl
signal_is symbols (instance m actuals) e listed n = absurd listed
signal_is symbols (members []) e listed n = absurd (listed.0 refl)
signal_is symbols (members (member.Number k ∷ ms)) e listed n =
    let all = member.Number k ∷ ms in
    let alike = (members_kept all e).alike in
    let some = spread_some (just k) (numbers_in ms) in
    let known : declared_interval symbols (members all) ≡ Some some.0 = sym (interval_is symbols (members all) e) ∙ some.1 in
    let size : kind_width symbols (judged_declared (members all)).kind ≡ word_width some.0 =
    ap (width_by symbols number_class) (kept_interval _ (hull_of (map member_kind all)) (own_none _ e) ∙ ap hull_of (kinds_alike symbols all alike) ∙ known) in
    ap (ends_signal (symbol_width symbols) (domain.Numbers (numbers_in all)) n) some.1
    ∙ sized (kind_width symbols (judged_declared (members all)).kind) (word_width some.0) n (declared_interval symbols (members all)) some.0 size known
signal_is symbols (members (member.Symbol x ∷ ms)) e listed n =
    let all = member.Symbol x ∷ ms in
    let first = member_number symbols (member.Symbol x) in
    let some = spread_some (just first) (map pos (symbols_in symbols ms)) in
    let known : declared_interval symbols (members all) ≡ Some some.0 = sym (interval_is symbols (members all) e) ∙ some.1 in
    ap (ends_signal (symbol_width symbols) (domain.Symbols (symbols_in symbols all)) n) some.1
    ∙ sized (symbol_width symbols) (symbol_width symbols) n (declared_interval symbols (members all)) some.0 refl known

-- ---- gates

module _ (m : FlatModel) (now next : Copy) (e : Signal) where
  numbers_gates : (ms : List Member) → flat_map (unless_class number_class mixed_enum) (map member_kind ms) ≡ [] → (r : Literal) (s : Circuit)
      → as_bit (some_gates e (map number_word (numbers_in ms)) r s) ≡ encoded_members (names_of m now next) (whether_has e) (trees_from (map (member_tree m.symbols) ms)) r s
  unfolding encoded encoded_members some_gates after
  numbers_gates [] k r s = refl
  numbers_gates (member.Number n ∷ ms) k r s =
      let here = same_gates e (word (number_word n)) s in
      let made = or_gate r here.1 here.0 in numbers_gates ms k made.1 made.0
  numbers_gates (member.Symbol x ∷ ms) k r s = cc

  symbols_gates : (ms : List Member) → flat_map (unless_class symbol_class mixed_enum) (map member_kind ms) ≡ [] → (r : Literal) (s : Circuit)
      → as_bit (some_gates e (map (symbol_word (symbol_width m.symbols)) (symbols_in m.symbols ms)) r s) ≡ encoded_members (names_of m now next) (whether_has e) (trees_from (map (member_tree m.symbols) ms)) r s
  unfolding encoded encoded_members some_gates after
  symbols_gates [] k r s = refl
  symbols_gates (member.Number n ∷ ms) k r s = cc
  symbols_gates (member.Symbol x ∷ ms) k r s =
      let here = same_gates e (word (symbol_word (symbol_width m.symbols) (symbol_number m.symbols x))) s in
      let made = or_gate r here.1 here.0 in symbols_gates ms k made.1 made.0

  pub gates_are : (d : DeclaredTree) → (judged_declared d).broken ≡ [] → IsListedType m.symbols d → (s : Circuit)
      → domain_gates (symbol_width m.symbols) (domain_of m.symbols d) e s ≡ type_gates m (names_of m now next) d e s
  unfolding encoded after
  gates_are boolean k listed s = refl
  gates_are (range lo hi) k listed s = refl
  gates_are (instance a actuals) k listed s = absurd listed
  gates_are (members []) k listed s = absurd (listed.0 refl)
  gates_are (members (member.Number n ∷ ms)) k listed s =
      let all = member.Number n ∷ ms in ap asserted_signal (numbers_gates all (members_kept all k).alike (constant_lit false) s)
  gates_are (members (member.Symbol x ∷ ms)) k listed s =
      let all = member.Symbol x ∷ ms in ap asserted_signal (symbols_gates all (members_kept all k).alike (constant_lit false) s)
