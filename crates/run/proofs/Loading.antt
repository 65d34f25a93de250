-- Laws of the loops that load a list.
use Rattle.std.proofs.Common.{◌≡◌, ℕ, ◌+◌, ◌<◌, List, ◌∷◌, length, get_or, drop, Ok, Err, Result, sym, ap, ◌∙◌}
use Rattle.std.proofs.lemmas.List.{drop_more}
use Rattle.coefficients.specs.Coding.{Coding}
use Rattle.orders.specs.Models.{OrderModel}
use Rattle.words.specs.declared.term.Term.{Term}
use Rattle.kept.specs.Terms.{nil_term}
use Rattle.run.specs.declared.entry.Entry.{Entry as RowEntry}
use Rattle.run.specs.declared.fault.RunFault.{RunFault}
use Rattle.run.specs.Calls.{joined_entries, product_entries}
use Rattle.run.specs.Entries.{Entry, entered, row_entry, each_entry, load}
use Rattle.run.proofs.Entering.{cons-ok, cons-err, append-ok, append-err}

-- the term of ts at i, where each term t at place p gives the entry f p t
module _ (m : Coding) (o : OrderModel) (cap : ℕ) (f : ℕ → Term → Entry) (ts : List Term) (i : ℕ) (xs : List Term) (want : Result (List Term) RunFault)
    (so_far : load m o cap (each_entry f (i + 1) (drop i ts)) xs ≡ want)
    (h : i < length ts)
  where
    module _ (e : RowEntry) (is : e ≡ row_entry (f (i + 1) (get_or ts i nil_term))) where
      split : load m o cap (f (i + 1) (get_or ts i nil_term) ∷ each_entry f (i + 1 + 1) (drop (i + 1) ts)) xs ≡ want
      split = sym (ap (λ l. load m o cap (each_entry f (i + 1) l) xs) (drop_more ts i nil_term h)) ∙ so_far

      pub each_on : (ys : List Term) → Ok ys ≡ entered m o cap e xs → load m o cap (each_entry f (i + 1 + 1) (drop (i + 1) ts)) ys ≡ want
      each_on ys q = cons-ok m o cap (f (i + 1) (get_or ts i nil_term)) e (each_entry f (i + 1 + 1) (drop (i + 1) ts)) xs is ys q ∙ split

      pub each_stop : (x : RunFault) → entered m o cap e xs ≡ Err x → want ≡ Err x
      each_stop x q = sym split ∙ cons-err m o cap (f (i + 1) (get_or ts i nil_term)) e (each_entry f (i + 1 + 1) (drop (i + 1) ts)) xs is x q

-- the products of the term of ts at i
module _ (m : Coding) (o : OrderModel) (cap i : ℕ) (ts us xs : List Term) (want : Result (List Term) RunFault)
    (so_far : load m o cap (product_entries m (i + 1) (drop i ts) us) xs ≡ want)
    (h : i < length ts)
  where
    pub products_on : (ys : List Term) → Ok ys ≡ load m o cap (joined_entries m (i + 1) (get_or ts i nil_term) 1 us) xs → load m o cap (product_entries m (i + 1 + 1) (drop (i + 1) ts) us) ys ≡ want
    products_on ys q =
        append-ok m o cap (product_entries m (i + 1 + 1) (drop (i + 1) ts) us) (joined_entries m (i + 1) (get_or ts i nil_term) 1 us) xs ys q
        ∙ sym (ap (λ l. load m o cap (product_entries m (i + 1) l us) xs) (drop_more ts i nil_term h))
        ∙ so_far

    pub products_stop : (f : RunFault) → load m o cap (joined_entries m (i + 1) (get_or ts i nil_term) 1 us) xs ≡ Err f → want ≡ Err f
    products_stop f q =
        sym so_far
        ∙ ap (λ l. load m o cap (product_entries m (i + 1) l us) xs) (drop_more ts i nil_term h)
        ∙ append-err m o cap (product_entries m (i + 1 + 1) (drop (i + 1) ts) us) (joined_entries m (i + 1) (get_or ts i nil_term) 1 us) xs f q
