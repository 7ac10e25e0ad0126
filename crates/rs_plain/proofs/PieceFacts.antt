-- What is asked of the pieces of a search, one behind another, is what is asked of all combinations.
use Rattle.std.proofs.Common.{ℕ, ◌≡◌, ◌∙◌, ◌≤◌, ◌++◌, List, map, sym, ap, arith}
use Rattle.std.specs.List.{flat_map}
use Rattle.std.proofs.lemmas.Grind.{flat_map-append}
use Rattle.std.proofs.lemmas.List.{map-append}
use Rattle.rs_catalog.specs.Catalog.{CatalogDef}
use Rattle.rs_query.specs.Combinations.{all_combinations}
use Rattle.rs_query.specs.Pieces.{combinations_between}
use Rattle.rs_query.specs.Tables.{size_of}
use Rattle.rs_query.specs.WellFormed.{IsBlock}
use Rattle.rs_query.specs.declared.block.Block.{Block}
use Rattle.rs_query.proofs.PieceFacts.{between-all, between-more}

module _ {A : Type 0} (catalogue : CatalogDef) (block : Block) where
  -- what a piece and the one behind it give
  pub flat_map-more : (f : List ℕ → List A) (above middle last : ℕ) → above ≤ middle → middle ≤ last
      → flat_map f (combinations_between catalogue block above middle) ++ flat_map f (combinations_between catalogue block middle last) ≡ flat_map f (combinations_between catalogue block above last)
  flat_map-more f above middle last low high =
      sym (flat_map-append f (combinations_between catalogue block above middle) (combinations_between catalogue block middle last))
      ∙ ap (flat_map f) (between-more catalogue block above middle last low high)

  pub map-more : (f : List ℕ → A) (above middle last : ℕ) → above ≤ middle → middle ≤ last
      → map f (combinations_between catalogue block above middle) ++ map f (combinations_between catalogue block middle last) ≡ map f (combinations_between catalogue block above last)
  map-more f above middle last low high =
      sym (map-append f (combinations_between catalogue block above middle) (combinations_between catalogue block middle last))
      ∙ ap (map f) (between-more catalogue block above middle last low high)

  module _ (is : IsBlock catalogue block) where
    -- what all combinations give: what was so far, and what is left
    pub flat_map-parted : (f : List ℕ → List A) (above : ℕ) → above ≤ size_of catalogue block 1
        → flat_map f (all_combinations catalogue block) ≡ flat_map f (combinations_between catalogue block 0 above) ++ flat_map f (combinations_between catalogue block above (size_of catalogue block 1))
    flat_map-parted f above within =
        ap (flat_map f) (sym (between-all catalogue block is)) ∙ sym (flat_map-more f 0 above (size_of catalogue block 1) (omega arith) within)

    -- the same with a piece in between
    pub flat_map-piece : (f : List ℕ → List A) (above last : ℕ) → above ≤ last → last ≤ size_of catalogue block 1
        → flat_map f (all_combinations catalogue block)
        ≡ flat_map f (combinations_between catalogue block 0 above)
        ++ (flat_map f (combinations_between catalogue block above last) ++ flat_map f (combinations_between catalogue block last (size_of catalogue block 1)))
    flat_map-piece f above last up within =
        flat_map-parted f above (omega arith)
        ∙ ap (λ rest. flat_map f (combinations_between catalogue block 0 above) ++ rest) (sym (flat_map-more f above last (size_of catalogue block 1) up within))
