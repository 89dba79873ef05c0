-- The tables of constants, of loop limits and of texts.
use Rattle.std.specs.Prelude.{ℕ, ℤ, List, [], nat_eq, FitsSigned}
use Rattle.std.specs.Int.{w64}
use Rattle.std.specs.Ordering.{int_eq}
use Rattle.std.specs.Str.{bytes_eq}
use Rattle.indexmap.specs.IndexSet.{insert_key}
use Rattle.cse_image_parts.specs.Limits.{most_constants, most_limits, most_texts}
use Rattle.cse_image_parts.specs.Spelling.{SectionFits}
use Rattle.cse_image.specs.Spelling.{LimitFits, TextFits}

-- texts are the bytes of their UTF-8
pub record PoolLists : Type 0 where
  pub constants : List ℤ
  pub limits : List ℕ
  pub texts : List (List ℕ)

abbrev pub no_pools : PoolLists
no_pools = record { constants = []; limits = []; texts = [] }

-- the tables have a spelling in an image
pub record PoolsFit (p : PoolLists) : Type 0 where
  pub constants : SectionFits most_constants (λ _. FitsSigned w64) p.constants
  pub limits : SectionFits most_limits (λ _. LimitFits) p.limits
  pub texts : SectionFits most_texts (λ _. TextFits) p.texts

-- with an entry more at the end, unless it is there
abbrev pub with_constant : PoolLists → ℤ → PoolLists
with_constant p z = record p { constants = insert_key int_eq p.constants z }

abbrev pub with_limit : PoolLists → ℕ → PoolLists
with_limit p n = record p { limits = insert_key nat_eq p.limits n }

abbrev pub with_text : PoolLists → List ℕ → PoolLists
with_text p t = record p { texts = insert_key bytes_eq p.texts t }
