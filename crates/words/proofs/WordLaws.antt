-- Items of a width within the words.
use Prim.Native.Nat.{ℕ, suc, ◌+◌, ◌-◌, ◌*◌, ◌/◌, ◌≤◌, ◌<◌}
use native.Mathlib.Nat.{mul_comm, mul-suc, div-lt_iff_lt-mul, le-div_iff_mul-le}
use native.Mathlib.Omega.{arith}
use mathlib.Core.Path.{◌≡◌, sym, ap, ap₂, ◌∙◌}
use mathlib.Core.List.{List, ◌++◌}
use lib.ListN.{length, take, drop}
use lib.Seq.{sets, take-length}
use Rattle.std.proofs.Common.{length-take, length-drop}
use Rattle.std.proofs.lemmas.Slice.{put_mid-paste}
use Rattle.std.proofs.lemmas.List.Edits.{sets-eq}
use borrow.Rule.Slice.PartMut.{put_mid}
use borrow.Author.Tests.{le-leb, lt-leb}
use Rattle.words.specs.Items.{put_item}

-- where item k begins among n words
module _ (n : ℕ) {width k : ℕ} (h : 0 < width) where
  pub item-past : n / width < k → n < width * k
  item-past l = rw (mul_comm width k) ((div-lt_iff_lt-mul h).0 l)

  pub item-within : k ≤ n / width → width * k ≤ n
  item-within l = rw (mul_comm width k) ((le-div_iff_mul-le h).0 l)

-- item k, of so many words, written or not
module _ (width : ℕ) (w : List ℕ) {k : ℕ} (xs : List ℕ) (h : 0 < width) where
  pub item_unwritten : length w / width ≤ k → put_item width w k xs ≡ w
  unfolding put_item
  item_unwritten l = rw (lt-leb (width * k + width) (length w) (omega (arith, item-past (length w) {k = suc k} h (omega arith), mul-suc width k)))

  pub item-written : k < length w / width → put_item width w k xs ≡ sets w (width * k) xs
  unfolding put_item
  item-written l = rw (le-leb (width * k + width) (length w) (omega (arith, item-within (length w) {k = suc k} h l, mul-suc width k)))

  -- as a write to that part of the words gives it
  pub item-put : k < length w / width → {ys : List ℕ} → ys ≡ xs → length ys ≡ length (take (width * k + width - width * k) (drop (width * k) w))
      → put_mid (width * k) (width * k + width - width * k) w ys ≡ put_item width w k xs
  item-put l {ys} e m =
      let fits : width * k + width ≤ length w = omega (arith, item-within (length w) {k = suc k} h l, mul-suc width k) in
      let room : width * k + width - width * k ≡ width = omega arith in
      let part : length (take (width * k + width - width * k) (drop (width * k) w)) ≡ width = simp (length-take, length-drop) (omega (arith, fits)) in
      let long : width ≡ length xs = sym part ∙ sym m ∙ ap length e in
      let whole : take width xs ≡ xs = ap (λ (n : ℕ). take n xs) long ∙ take-length xs in
      put_mid-paste (width * k) (width * k + width - width * k) w ys xs width e (sym room) long
      ∙ ap₂ (λ (x : List ℕ) (n : ℕ). take (width * k) w ++ x ++ drop (width * k + n) w) whole long
      ∙ sym (sets-eq xs w (width * k) (omega (arith, fits, long))) ∙ sym (item-written l)
