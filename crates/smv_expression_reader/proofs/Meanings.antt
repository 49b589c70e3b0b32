-- What lists of expected symbols stand for, over any grammar that is read by one lexeme at a time.
use Rattle.std.proofs.Common.{◌≡◌, Bool, List, [], ◌∷◌, ◌++◌, Option, Some, None, refl, sym, ◌∙◌, ap, subst, append-nil}
use Rattle.smv_language.specs.Lexemes.{Lexeme}
use Rattle.smv_expression_reader.specs.PredictiveReader.{Grammar, Means, Fits}

-- a single symbol stands for what it spells
pub last : {Sym : Type 0} (g : Grammar Sym) (x : Sym) (ts : List Lexeme) → Means Sym g (x ∷ []) ts → g.Spelled x ts
last g x ts m = subst (g.Spelled x) (sym (m.2 ∙ ap (λ z. m.0 ++ z) m.4 ∙ append-nil m.0)) m.3

pub as_last : {Sym : Type 0} (g : Grammar Sym) (x : Sym) (ts : List Lexeme) → g.Spelled x ts → Means Sym g (x ∷ []) ts
as_last g x ts d = (ts, [], sym (append-nil ts), d, refl)

-- what a choice of symbols stands for
unfoldable pub Leads : {Sym : Type 0} → Grammar Sym → Option (List Sym) → List Lexeme → Type 0
Leads {Sym} g (Some syms) ts = Means Sym g syms ts
Leads g None ts = ⊥

pub leads_some : {Sym : Type 0} (g : Grammar Sym) (o : Option (List Sym)) (ts : List Lexeme) → Leads g o ts → (syms : List Sym) × (o ≡ Some syms) × Means Sym g syms ts
unfolding Leads
leads_some g (Some syms) ts h = (syms, refl, h)
leads_some g None ts h = absurd h

pub some_leads : {Sym : Type 0} (g : Grammar Sym) (o : Option (List Sym)) (syms : List Sym) (ts : List Lexeme) → o ≡ Some syms → Means Sym g syms ts → Leads g o ts
unfolding Leads
some_leads {Sym} g (Some a) syms ts e m = let same : syms ≡ a = cc in subst (λ z. Means Sym g z ts) same m
some_leads g None syms ts e m = cc

-- what follows each symbol of a choice may follow it
unfoldable pub FitsAll : {Sym : Type 0} → Grammar Sym → Option (List Sym) → (Lexeme → Bool) → Type 0
FitsAll {Sym} g (Some syms) f = Fits Sym g syms f
FitsAll g None f = Unit {0}

pub some_fits : {Sym : Type 0} (g : Grammar Sym) (o : Option (List Sym)) (syms : List Sym) (f : Lexeme → Bool) → o ≡ Some syms → FitsAll g o f → Fits Sym g syms f
unfolding FitsAll
some_fits {Sym} g (Some a) syms f e m = let same : a ≡ syms = cc in subst (λ z. Fits Sym g z f) same m
some_fits g None syms f e m = cc
