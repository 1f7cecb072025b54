-- The queues and the threads that came, in their order.
use Rattle.std.specs.Prelude.{ℕ, List, [], ◌∷◌, ◌++◌, ◌≡◌, Option, Some, None, if◌then◌else◌}
use Rattle.std.specs.Ordering.{nat_cmp}
use Rattle.std.specs.BTreeMap.{BTreeMap, get}
use Rattle.vq_capture_check.specs.declared.sites.Site.{Site}
use Rattle.vq_capture_check.specs.declared.sites.Site.TheVariants.{OnQueue, OnThread}
use Rattle.vq_capture_check.specs.Sites.{counted, has_site, site_number}
use Rattle.vq_capture_check.specs.declared.past_sites.PastSites.{PastSites, NoSites, OneMore'}

abbrev pub sites_before : PastSites → List Site
sites_before NoSites = []
sites_before (OneMore' shape before site) = sites_before before ++ site ∷ []

-- how many of some sites are of the kind of another
abbrev pub of_kind : List Site → Site → ℕ
of_kind [] s = 0
of_kind (t ∷ ts) s = counted t s (of_kind ts s)

-- the number of a site that is there
abbrev pub numbered : List Site → Site → Option ℕ
numbered sites s = if has_site sites s then Some (site_number sites s) else None

-- Maps from sites to their numbers, and how many there are of each kind.
pub record AreNumbered (sites : List Site) (queues threads : BTreeMap ℕ ℕ) (queue_count thread_count : ℕ) : Type 0 where
  pub queues_are : (q : ℕ) → get nat_cmp queues q ≡ numbered sites (OnQueue q)
  pub threads_are : (h : ℕ) → get nat_cmp threads h ≡ numbered sites (OnThread h)
  pub queues_count : (q : ℕ) → of_kind sites (OnQueue q) ≡ queue_count
  pub threads_count : (h : ℕ) → of_kind sites (OnThread h) ≡ thread_count
