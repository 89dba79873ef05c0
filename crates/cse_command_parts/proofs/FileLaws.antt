-- What files gave, by the bytes that were read of them.
use Rattle.std.proofs.Common.{◌≡◌, ◌∙◌, ◌<◌, ap, inl, inr, refl, sym, subst, ℕ, List, Option, None, Some, IfNone, IfSome, length, option_copied, option_map}
use Rattle.std.specs.Borrow.{Bor}
use Rattle.cse_value.specs.Device.{Appends, Given}
use Rattle.cse_files.specs.declared.whole.WholeFile.{WholeFile}
use Rattle.cse_files.specs.Whole.{IsAll, IsWhole}
use Rattle.cse_image_parts.specs.Image.{Image}
use Rattle.cse_decks.specs.DeckText.{IsDeckText}
use Rattle.cse_decks.specs.Store.{Kept, first_kept}
use Rattle.cse_command_parts.specs.Named.{text_or_none}
use Rattle.cse_command_parts.specs.TextsGiven.{EndsWhereNamed, text_given}
use Rattle.cse_command_parts.specs.Told.{IsStart, Told, decks_given}
use Rattle.cse_command_parts.specs.Vetted.{Passes, told}

-- a text that is not longer than is allowed
pub all_of : (now : Given) (bytes : List ℕ) (most : ℕ) → IsWhole now bytes most → (most < length bytes → ⊥) → IsAll now bytes
all_of now bytes most w short = record {
  gave = w.gave;
  sound = w.sound;
  end = elim w.end [ inl e ↦ e | inr long ↦ absurd (short long) ];
}

-- the bytes of a deck file are those that it gave
pub decks_are : {F : Type 0} (t : Told F) (decks : Option (WholeFile F)) (most : ℕ) → IfSome decks (λ f. IsWhole (t.given f.input.device) f.bytes.items most)
    → option_map (λ f. f.bytes.items) decks ≡ decks_given t decks
decks_are t None most whole = refl
decks_are t (Some f) most whole = ap Some (sym whole.gave)

-- those of a text that may be named too
pub text_is : {F : Type 0} (t : Told F) (file : Option (WholeFile F)) → IfSome file (λ f. IsAll (t.given f.input.device) f.bytes.items)
    → text_or_none (option_map (λ f. f.bytes.items) file) ≡ text_given t file
text_is t None all = refl
text_is t (Some f) all = sym all.gave

pub text_ends : {F : Type 0} (t : Told F) (file : Option (WholeFile F)) → IfSome file (λ f. IsAll (t.given f.input.device) f.bytes.items) → EndsWhereNamed t file
text_ends t None all = tt
text_ends t (Some f) all = all.end

-- a store is what it starts with
pub starts_of : (x : Image) (text : Option (Bor (List ℕ))) (store : Kept) → IfNone text (store ≡ first_kept x) → IfSome text (λ t. IsDeckText x t.now store)
    → IsStart x (option_copied text) store
starts_of x None store first loaded = first
starts_of x (Some t) store first loaded = loaded

pub starts_from : {F : Type 0} (t : Told F) (x y : Image) (decks : Option (WholeFile F)) (most : ℕ) (text : Option (Bor (List ℕ))) (store : Kept) → x ≡ y
    → option_copied text ≡ option_map (λ f. f.bytes.items) decks → IfSome decks (λ f. IsWhole (t.given f.input.device) f.bytes.items most)
    → IfNone text (store ≡ first_kept x) → IfSome text (λ s. IsDeckText x s.now store) → IsStart y (decks_given t decks) store
starts_from t x y decks most text store same are whole first loaded =
    subst (λ (z : Image). IsStart z (decks_given t decks) store) same
    (subst (λ (d : Option (List ℕ)). IsStart x d store) (are ∙ decks_are t decks most whole) (starts_of x text store first loaded))

-- the same dictionary and the same image, and what was printed of these
pub prints_same : (text text' bytes bytes' old new : List ℕ) → text ≡ text' → bytes ≡ bytes' → ((p : Passes text bytes) × Appends old new (told p))
    → ((p : Passes text' bytes') × Appends old new (told p))
prints_same text text' bytes bytes' old new a b printed =
    subst (λ (x : List ℕ). (p : Passes x bytes') × Appends old new (told p)) a
    (subst (λ (x : List ℕ). (p : Passes text x) × Appends old new (told p)) b printed)
