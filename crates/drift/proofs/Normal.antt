-- What normalising does to length and place, over rational numbers: s is about |q|, r about 1 / s, and p about r q.
use Rattle.std.proofs.Common.{pos}
use Rattle.exact.specs.Fraction.{Frac, 1ᶠ, whole, part, ◌+ᶠ◌, ◌-ᶠ◌, ◌*ᶠ◌}
use Rattle.exact.specs.Quat.{Quat, square, plus, minus, scale}
use Rattle.exact.proofs.Ring.{con, ◌⊕◌, ◌⊗◌, ⊖◌, ◌⊝◌}
use Rattle.exact.proofs.Rational.{ℚ, cls, ◌+◌, ◌*◌, ◌-◌, ∅, ◌▸◌, ◌▹◌, ◌≐◌, ring}
use Rattle.exact.proofs.Order.{◌≤◌, squared, number, ◌⊞◌, ◌⊠◌, ◌≼◌, ◌by◌, ◌⇒◌, le}
use Rattle.exact.proofs.Within.{0#, 1#, 0ₑ, 1ₑ, 2⁻, closed, computes, ≤_trans, root, cancel, inverse_of, ◌within◌, ◌≈⟨◌⟩◌, near_≤, near_trans}
use Rattle.exact.proofs.Quats.{ops, exs, ◌upto◌, ◌~⟨◌⟩◌, apart, near, upto_+, square_near, ~_≤}
use Rattle.drift.proofs.Floats.{square_of}

-- s² is off by a share of 2⁻⁵¹ from the sum of four squares and of 2⁻⁵² from the root
abbrev pub σ : Frac
σ = part 51 +ᶠ part 52 +ᶠ part 90

-- r s is off by the quotient's rounding
abbrev pub β : Frac
β = part 53 +ᶠ part 100

-- four products of size 1, each rounded by 2⁻⁵³, are 2⁻⁵² off together
abbrev pub η : Frac
η = part 52 +ᶠ part 80

-- the squared length of r q is off by σ and 2 β
abbrev pub χ : Frac
χ = part 50 +ᶠ part 80

abbrev 1+σ : Frac
1+σ = 1ᶠ +ᶠ σ

abbrev one_less_σ : Frac
one_less_σ = 1ᶠ -ᶠ σ

module _ (q : Quat ℚ) (s r : ℚ) (S : s * s ≈⟨ square ops q * cls σ ⟩ square ops q) (B : r * s ≈⟨ cls β ⟩ 1#) where
  -- r² |q|² (1 − σ) ≤ (r s)² ≤ (1 + β)²
  pub scaled_up : square ops (scale ops q r) ≤ cls (1ᶠ +ᶠ χ)
  scaled_up = cancel (inverse_of one_less_σ tt).2 (le (q ▹ s ▸ r ▸ ∅) (λ q s r. square exs q ≼ s ⊗ s ⊕ square exs q ⊗ con σ ⇒ λ h. r ⊗ s ≼ 1ₑ ⊕ con β ⇒ λ b. 1ₑ ≼ r ⊗ s ⊕ con β ⇒ λ b'.
      square exs (scale exs q r) ⊗ con one_less_σ ≼ con (1ᶠ +ᶠ χ) ⊗ con one_less_σ by squared r ⊠ h ⊞ b ⊠ (b' ⊞ number (whole (pos 2)))) tt S.down B.up B.down)

  pub scaled_down : cls (1ᶠ -ᶠ χ) ≤ square ops (scale ops q r)
  scaled_down = cancel (inverse_of 1+σ tt).2 (le (q ▹ s ▸ r ▸ ∅) (λ q s r. s ⊗ s ≼ square exs q ⊕ square exs q ⊗ con σ ⇒ λ h. 1ₑ ≼ r ⊗ s ⊕ con β ⇒ λ b.
      con (1ᶠ -ᶠ χ) ⊗ con 1+σ ≼ square exs (scale exs q r) ⊗ con 1+σ by squared r ⊠ h ⊞ b ⊠ (b ⊞ number (whole (pos 2) -ᶠ whole (pos 2) *ᶠ β))) tt S.up B.down)

  module _ (p : Quat ℚ) (E : p ~⟨ cls η ⟩ scale ops q r) where
    -- χ and 2 η are below 2⁻⁴⁹
    pub normal_length : square ops p ≈⟨ 2⁻ 49 ⟩ 1#
    unfolding computes
    normal_length =
        let long : scale ops q r upto cls (1ᶠ +ᶠ part 50) = record { nonneg = closed tt; most = ≤_trans scaled_up (closed tt) } in
        let unit : square ops (scale ops q r) ≈⟨ cls χ ⟩ 1# = record { up = scaled_up; down = le (square ops (scale ops q r) ▸ ∅) (λ x. con (1ᶠ -ᶠ χ) ≼ x ⇒ λ h. 1ₑ ≼ x ⊕ con χ by h) tt scaled_down } in
        near_≤ (near_trans (square_near long E) unit) (closed tt)

    -- normalising moves a quaternion no further than its length is from 1, but for 2⁻⁴⁸: η, and 2 σ and β by which r s − s may be off
    module _ (δ : ℚ) (s₀ : 0# ≤ s) (δ₀ : 0# ≤ δ) (δ₁ : δ ≤ 1#) (lo : (1# - δ) * (1# - δ) ≤ square ops q) (hi : square ops q ≤ (1# + δ) * (1# + δ)) where
      most : s ≤ (1# + δ) * cls 1+σ
      most = root (le (δ ▸ ∅) (λ d. 0ₑ ≼ d ⇒ λ h. 0ₑ ≼ (1ₑ ⊕ d) ⊗ con 1+σ by h ⊠ number 1+σ) tt δ₀)
          (le (q ▹ s ▸ δ ▸ ∅) (λ q s d. s ⊗ s ≼ square exs q ⊕ square exs q ⊗ con σ ⇒ λ h. square exs q ≼ (1ₑ ⊕ d) ⊗ (1ₑ ⊕ d) ⇒ λ k.
          s ⊗ s ≼ (1ₑ ⊕ d) ⊗ con 1+σ ⊗ ((1ₑ ⊕ d) ⊗ con 1+σ) by h ⊞ k ⊠ number 1+σ ⊞ squared (1ₑ ⊕ d) ⊠ number (1+σ *ᶠ σ)) tt S.up hi)

      least : (1# - δ) * cls one_less_σ ≤ s
      least = root s₀ (le (q ▹ s ▸ δ ▸ ∅) (λ q s d. square exs q ≼ s ⊗ s ⊕ square exs q ⊗ con σ ⇒ λ h. (1ₑ ⊝ d) ⊗ (1ₑ ⊝ d) ≼ square exs q ⇒ λ k.
          (1ₑ ⊝ d) ⊗ con one_less_σ ⊗ ((1ₑ ⊝ d) ⊗ con one_less_σ) ≼ s ⊗ s by h ⊞ k ⊠ number one_less_σ ⊞ squared (1ₑ ⊝ d) ⊠ number (one_less_σ *ᶠ σ)) tt S.down lo)

      abbrev g : ℚ
      g = δ + cls (whole (pos 2) *ᶠ σ +ᶠ β)

      off : r * s - s within g
      off = record {
        up = le (s ▸ r ▸ δ ▸ ∅) (λ s r d. r ⊗ s ≼ 1ₑ ⊕ con β ⇒ λ b. (1ₑ ⊝ d) ⊗ con one_less_σ ≼ s ⇒ λ l. 0ₑ ≼ d ⇒ λ k. r ⊗ s ⊝ s ≼ d ⊕ con (whole (pos 2) *ᶠ σ +ᶠ β) by b ⊞ l ⊞ k ⊠ number σ) tt B.up least δ₀;
        down = le (s ▸ r ▸ δ ▸ ∅) (λ s r d. 1ₑ ≼ r ⊗ s ⊕ con β ⇒ λ b. s ≼ (1ₑ ⊕ d) ⊗ con 1+σ ⇒ λ l. d ≼ 1ₑ ⇒ λ k. ⊖ (r ⊗ s ⊝ s) ≼ d ⊕ con (whole (pos 2) *ᶠ σ +ᶠ β) by b ⊞ l ⊞ k ⊠ number σ) tt B.down most δ₁;
      }

      -- (r − 1)² |q|² (1 − σ) ≤ (r s − s)² ≤ g²
      stretched : scale ops q (r - 1#) upto g * cls 1+σ
      stretched = record {
        nonneg = le (δ ▸ ∅) (λ d. 0ₑ ≼ d ⇒ λ h. 0ₑ ≼ (d ⊕ con (whole (pos 2) *ᶠ σ +ᶠ β)) ⊗ con 1+σ by h ⊠ number 1+σ) tt δ₀;
        most = cancel (inverse_of one_less_σ tt).2 (le (q ▹ s ▸ r ▸ g ▸ ∅) (λ q s r g. square exs q ≼ s ⊗ s ⊕ square exs q ⊗ con σ ⇒ λ h. (r ⊗ s ⊝ s) ⊗ (r ⊗ s ⊝ s) ≼ g ⊗ g ⇒ λ k.
            square exs (scale exs q (r ⊝ 1ₑ)) ⊗ con one_less_σ ≼ g ⊗ con 1+σ ⊗ (g ⊗ con 1+σ) ⊗ con one_less_σ by squared (r ⊝ 1ₑ) ⊠ h ⊞ k ⊞ squared g ⊠ number (1+σ *ᶠ 1+σ *ᶠ one_less_σ -ᶠ 1ᶠ)) tt S.down (square_of off));
      }

      pub moved : p ~⟨ δ + 2⁻ 48 ⟩ q
      moved = ~_≤ (near (upto_+ (apart E) stretched) (ring (p ▹ q ▹ r ▸ ∅) (λ p q r. square exs (plus exs (minus exs p (scale exs q r)) (scale exs q (r ⊝ 1ₑ))) ≐ square exs (minus exs p q)) tt))
          (le (δ ▸ ∅) (λ d. d ≼ 1ₑ ⇒ λ h. con η ⊕ (d ⊕ con (whole (pos 2) *ᶠ σ +ᶠ β)) ⊗ con 1+σ ≼ d ⊕ con (part 48) by number σ ⊠ h) tt δ₁)
