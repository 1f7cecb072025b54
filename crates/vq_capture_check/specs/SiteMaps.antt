-- The sites that were numbered.
use Rattle.std.specs.Prelude.{List}
use Rattle.vq_capture_check.specs.declared.sites.Site.{Site}
use Rattle.vq_capture_check.specs.declared.numbered_sites.NumberedSites.{NumberedSites}
use Rattle.vq_capture_check.specs.PastSites.{sites_before}

abbrev pub sites_of : NumberedSites → List Site
sites_of x = sites_before x.past.value
