-- What a checked source promises of its program.
use Rattle.std.proofs.Common.{◌≡◌, ℕ, Bool, true, false, List, refl, sym, subst}
use Rattle.std.specs.Prelude.{IsTrue, ◌||◌, nat_eq, Result, Ok, Err, IfErr}
use Rattle.std.proofs.Math.Logic.{∥∥₁_elim, ∥∥₁_prop}
use Rattle.std.proofs.lemmas.Bool.{false≢true}
use Rattle.cse_dict.specs.Dictionary.{DictionaryText, shape_of}
use Rattle.cse_dict.specs.Sound.{IsSound as IsSoundDictionary}
use Rattle.cse_syntax_tree.specs.Grammar.{spell_tree}
use Rattle.cse_logic_tree.specs.Typed.{Tree}
use Rattle.cse_logic_tree.specs.Erase.{erase_tree}
use Rattle.cse_types.specs.Checked.{Checked, IsChecked}
use Rattle.cse_compile.specs.declared.error.CompileError.{CompileError}
use Rattle.cse_compile.specs.Compiled.{HasNoRoom, IsSound, MayTakeLong}
use Rattle.cse_compile.specs.Fault.{IsReason}
use Rattle.cse_meaning.specs.Costs.{KeepsCosts}
use Rattle.cse_meaning.proofs.SoundLaws.{grammar_suffices}
use Rattle.cse_meaning.proofs.CaseCosts.{long_only_at_cost}
use Rattle.cse_meaning.specs.Given.{ShapeFits}
use Rattle.cse_meaning.specs.Within.{IsWithin}
use Rattle.cse_meaning.proofs.RoomWhole.{large_alone}

-- a truth that follows from what is there
decided : {S : Type 0} (b : Bool) → ∥ S ∥₁ → (S → IsTrue b) → IsTrue b
decided true s h = refl
decided false s h = absurd (∥∥₁_elim s (λ a b. absurd a) (λ x. false≢true (h x)))

module _ (c : Checked) (dictionary : IsSoundDictionary c.dictionary) (is : ∥ IsChecked c ∥₁) where
  sound : ∥ IsSound c.dictionary c.order c.tree ∥₁
  sound = ∥∥₁_elim is ∥∥₁_prop (λ k.
      grammar_suffices c.dictionary c.messages c.order (erase_tree c.tree) (spell_tree (erase_tree c.tree)) c.tree dictionary k.source (record { erased = refl; well = k.well }) k.ordered)

  long_costs : MayTakeLong c.dictionary c.order c.tree → KeepsCosts c.dictionary c.tree → ⊥
  long_costs long keeps = ∥∥₁_elim is (λ a b. absurd a) (λ k.
      long_only_at_cost c.dictionary c.messages c.order (erase_tree c.tree) (spell_tree (erase_tree c.tree)) c.tree dictionary k.source (record { erased = refl; well = k.well }) long keeps)

  -- the compiler is handed the dictionary, the named records and the tree of the source
  module _ (d : DictionaryText) (named : List ℕ) (t : Tree) (same_d : d ≡ c.dictionary) (same_named : named ≡ c.order) (same_t : t ≡ c.tree) where
    sound_there : IsSound c.dictionary c.order c.tree → IsSound d named t
    sound_there h =
        subst (λ (y : Tree). IsSound d named y) (sym same_t) (subst (λ (ns : List ℕ). IsSound d ns c.tree) (sym same_named) (subst (λ (e : DictionaryText). IsSound e c.order c.tree) (sym same_d) h))

    long_here : MayTakeLong d named t → MayTakeLong c.dictionary c.order c.tree
    long_here h =
        subst (λ (e : DictionaryText). MayTakeLong e c.order c.tree) same_d (subst (λ (ns : List ℕ). MayTakeLong d ns c.tree) same_named (subst (λ (y : Tree). MayTakeLong d named y) same_t h))

    pub reasons_alone : {T : Type 0} (r : Result T CompileError) → (IsSound d named t → IfErr r IsReason) → IfErr r IsReason
    reasons_alone (Ok x) h = tt
    reasons_alone (Err e) h = decided (nat_eq e.number 64 || (nat_eq e.number 67 || nat_eq e.number 90)) sound (λ s. h (sound_there s))

    pub long_at_cost : {T : Type 0} (r : Result T CompileError) → (IsSound d named t → IfErr r (λ e. e.number ≡ 67 → MayTakeLong d named t)) → IfErr r (λ e. e.number ≡ 67 → KeepsCosts c.dictionary c.tree → ⊥)
    long_at_cost (Ok x) h = tt
    long_at_cost (Err e) h = λ is67 keeps. ∥∥₁_elim sound (λ a b. absurd a) (λ s. long_costs (long_here (h (sound_there s) is67)) keeps)

    room_here : HasNoRoom d named t → HasNoRoom c.dictionary c.order c.tree
    room_here h =
        subst (λ (e : DictionaryText). HasNoRoom e c.order c.tree) same_d (subst (λ (ns : List ℕ). HasNoRoom d ns c.tree) same_named (subst (λ (y : Tree). HasNoRoom d named y) same_t h))

    pub no_room : {T : Type 0} (r : Result T CompileError) → IfErr r (λ e. e.number ≡ 64 → HasNoRoom d named t) → IfErr r (λ e. e.number ≡ 64 → HasNoRoom c.dictionary c.order c.tree)
    no_room (Ok x) h = tt
    no_room (Err e) h = λ is64. room_here (h is64)

    pub within_limits : {T : Type 0} (r : Result T CompileError) → ShapeFits (shape_of c.dictionary) → IfErr r (λ e. e.number ≡ 64 → HasNoRoom d named t) → IfErr r (λ e. e.number ≡ 64 → IsWithin c.tree → ⊥)
    within_limits (Ok x) shape h = tt
    within_limits (Err e) shape h = λ is64 within. ∥∥₁_elim is (λ a b. absurd a) (λ k. ∥∥₁_elim k.utf8 (λ a b. absurd a) (λ utf8.
        large_alone c.dictionary c.messages c.order (erase_tree c.tree) (spell_tree (erase_tree c.tree)) c.tree dictionary shape k.source utf8 k.texts (record { erased = refl; well = k.well }) k.ordered within (room_here (h is64))))
